-- What a session's parts say together: the answer to a command.
use Rattle.std.proofs.Common.{◌≡◌, ℕ, List, false, true, Some, Ok, Err, Result, OnErr, refl, sym, ap, ◌∙◌, subst, inl, inr}
use Rattle.std.specs.Prelude.{IfOk, codes}
use Rattle.kv_fresh.specs.States.{table_of}
use Rattle.kv_lex.specs.declared.token.TokenKind.{TokenKind}
use Rattle.kv_punit.specs.Commands.{Command}
use Rattle.kv_punit.specs.Grammar as g
use Rattle.kv_punit.proofs.First.{first_of}
use Rattle.kv_punit.specs.FirstFault.{Answers, command_faults}
use Rattle.kv_punit.specs.Readings.{ReadsCommand}
use Rattle.kv_query.specs.Replies.{status_text}
use Rattle.kv_session.proofs.Back.{text_reads}
use Rattle.kv_session.proofs.Sound.{edit_spellable}
use Rattle.kv_session.proofs.Spellings.{stays_spellable}
use Rattle.kv_session.specs.Answers.{Gives}
use Rattle.kv_session.specs.Edits.{Edit, edited}
use Rattle.kv_session.specs.declared.errors.EditError.{EditError}
use Rattle.kv_session.specs.declared.stepping.Answer.{Answer}
use Rattle.kv_punit.specs.Commands.{plain_command}
use Rattle.kv_punit.specs.declared.errors.TextError.TheVariants.{NoMemory}
use Rattle.kv_punit.specs.declared.commands.Command as code
use Rattle.kv_punit.specs.declared.commands.Command.TheVariants as variant
use Rattle.kv_punit.specs.declared.errors.TextError.{TextError}
use Rattle.kv_session.specs.Replies.{fault_text}
use Rattle.kv_session.specs.Sessions.{IsAnswered, IsEdited, IsTable, accepted, edit_of, refused, save, status, unread}
use Rattle.kv_session.specs.Spellable.{IsSpellable, IsSpellableEdit}
use Rattle.kv_syn.specs.Projects as P
use Rattle.kv_names.specs.Names.{Name}
use Rattle.kv_syn.specs.declared.units.Proof.{Proof}
use Rattle.kv_syn.specs.declared.units.Theorem.{Theorem}
use Rattle.kv_syn.specs.declared.units.Unit as units

-- the table of a project that can be spelt is that of its canonical text
own_table : (project : P.Project) → IsSpellable project → IsTable project (table_of project)
own_table project is = (project, text_reads project is, refl)

pub edit_answered : (project after : P.Project) (command : Command) (edit : Edit) (text answer : List ℕ)
    → IsSpellable project → ReadsCommand text command → edit_of command ≡ Some edit → IsEdited project edit answer after → IsAnswered project text answer false after
edit_answered project after command edit text answer kept reads asks (inl (e, is)) =
    let spellable = stays_spellable project after edit (edit_spellable text command edit reads asks) e kept in
    subst (λ a. IsAnswered project text a false after) (sym is) (accepted reads asks e (own_table after spellable))
edit_answered project after command edit text answer kept reads asks (inr (refusal, e, is, same)) =
    subst (λ q. IsAnswered project text answer false q) (sym same) (subst (λ a. IsAnswered project text a false project) (sym is) (refused reads asks e))

pub status_answered : (project : P.Project) (text answer : List ℕ) → IsSpellable project → ReadsCommand text Command.Status → answer ≡ status_text (table_of project) → IsAnswered project text answer false project
status_answered project text answer kept reads is = subst (λ a. IsAnswered project text a false project) (sym is) (status reads (own_table project kept))

-- an edit that is answered leaves a project that can be spelt
pub edit_keeps : {X : Type 0} (old new : P.Project) (edit : Edit) (result : Result X EditError) → IsSpellableEdit edit → Gives (λ (x : X). new) (edited old edit) result → OnErr result (new ≡ old) → IsSpellable old → IsSpellable new
edit_keeps old new edit (Ok x) is gives same kept = stays_spellable old new edit is gives kept
edit_keeps old new edit (Err e) is gives same kept = subst IsSpellable (sym same) kept

-- what a command is obeyed with, whatever text spells it
abbrev pub IsObeyed : {E : Type 0} → P.Project → Command → P.Project → Result Answer E → Type 0
IsObeyed project command after result = IfOk result (λ answer. (text : List ℕ) → ReadsCommand text command → IsAnswered project text answer.bytes answer.save after)

pub edit_obeyed : {E : Type 0} (project after : P.Project) (command : Command) (edit : Edit) (result : Result Answer E) → IsSpellable project → edit_of command ≡ Some edit
    → IfOk result (λ answer. IsEdited project edit answer.bytes after) → IfOk result (λ answer. answer.save ≡ false) → IsObeyed project command after result
edit_obeyed project after command edit (Ok answer) kept asks edited unsaved = λ text reads.
    subst (λ s. IsAnswered project text answer.bytes s after) (sym unsaved) (edit_answered project after command edit text answer.bytes kept reads asks edited)
edit_obeyed project after command edit (Err e) kept asks edited unsaved = tt

pub status_obeyed : {E : Type 0} (project : P.Project) (command : Command) (result : Result Answer E) → IsSpellable project → command ≡ Command.Status
    → IfOk result (λ answer. answer.bytes ≡ status_text (table_of project)) → IfOk result (λ answer. answer.save ≡ false) → IsObeyed project command project result
status_obeyed project command (Ok answer) kept is states unsaved = λ text reads.
    subst (λ s. IsAnswered project text answer.bytes s project) (sym unsaved) (status_answered project text answer.bytes kept (subst (ReadsCommand text) is reads) states)
status_obeyed project command (Err e) kept is states unsaved = tt

pub save_obeyed : {E : Type 0} (project : P.Project) (command : Command) (result : Result Answer E) → command ≡ Command.Save
    → IfOk result (λ answer. (answer.bytes ≡ codes "saved\n.\n") × (answer.save ≡ true)) → IsObeyed project command project result
save_obeyed project command (Ok answer) is saved = λ text reads.
    subst (λ s. IsAnswered project text answer.bytes s project) (sym saved.1)
    (subst (λ a. IsAnswered project text a true project) (sym saved.0) (save (subst (ReadsCommand text) is reads)))
save_obeyed project command (Err e) is saved = tt

-- the commands that a text can spell so far
abbrev pub IsAsked : Command → Type 0
IsAsked (Command.Add unit) = Unit {0}
IsAsked (Command.Theorem unit theorem) = Unit {0}
IsAsked (Command.Proof unit proof) = Unit {0}
IsAsked Command.Status = Unit {0}
IsAsked Command.Save = Unit {0}
IsAsked other = ⊥

arguments_asked : {row : ℕ} {ts : List TokenKind} {command : Command} → g.IsArguments row ts command → IsAsked command
arguments_asked (g.add r) = tt
arguments_asked (g.theorem r) = tt
arguments_asked (g.proof r) = tt
arguments_asked g.status = tt
arguments_asked g.save = tt

command_asked : {ts : List TokenKind} {command : Command} → g.IsCommand ts command → IsAsked command
command_asked (g.command text row arguments) = arguments_asked arguments

pub asked : (text : List ℕ) (command : Command) → ReadsCommand text command → IsAsked command
asked text command reads = command_asked reads.spelt

-- a fault with a line isn't want of memory
with_line : (fault : TextError) (line : List ℕ) → fault_text fault ≡ Some line → fault ≡ NoMemory → ⊥
with_line fault line has is = absurd (let e = sym has ∙ ap fault_text is in cc)

-- a text that isn't read is answered with the line for its fault
pub unread_answered : {E F : Type 0} (project : P.Project) (text : List ℕ) (fault : TextError) (line : Result (List ℕ) F) (result : Result Answer E)
    → Answers {X = code.Command} command_faults text (Err fault) → IfOk line (λ l. fault_text fault ≡ Some l) → IfOk result (λ answer. line ≡ Ok answer.bytes)
    → IfOk result (λ answer. answer.save ≡ false) → IfOk result (λ answer. IsAnswered project text answer.bytes answer.save project)
unread_answered project text fault line (Ok answer) has written is unsaved =
    let told = subst (λ l. IfOk l (λ a. fault_text fault ≡ Some a)) is written in
    subst (λ s. IsAnswered project text answer.bytes s project) (sym unsaved) (unread fault (first_of code.Command command_faults text fault (with_line fault answer.bytes told) has) told)
unread_answered project text fault line (Err e) has written is unsaved = tt

-- no other command was read
pub only_asked : (command : code.Command) → IsAsked (plain_command command)
    → ((unit : units.Unit) → command ≡ variant.Add unit → ⊥) → ((unit : Name) (theorem : Theorem) → command ≡ variant.Theorem unit theorem → ⊥)
    → ((unit : Name) (proof : Proof) → command ≡ variant.Proof unit proof → ⊥) → (command ≡ variant.Status → ⊥) → (command ≡ variant.Save → ⊥) → ⊥
only_asked (variant.Add unit) asks no_add no_theorem no_proof no_status no_save = no_add unit refl
only_asked (variant.Theorem unit t) asks no_add no_theorem no_proof no_status no_save = no_theorem unit t refl
only_asked (variant.Proof unit p) asks no_add no_theorem no_proof no_status no_save = no_proof unit p refl
only_asked variant.Status asks no_add no_theorem no_proof no_status no_save = no_status refl
only_asked variant.Save asks no_add no_theorem no_proof no_status no_save = no_save refl
only_asked (variant.Put unit) asks no_add no_theorem no_proof no_status no_save = asks
only_asked (variant.Drop unit) asks no_add no_theorem no_proof no_status no_save = asks
only_asked (variant.Change unit t) asks no_add no_theorem no_proof no_status no_save = asks
only_asked (variant.Forget unit name) asks no_add no_theorem no_proof no_status no_save = asks
only_asked (variant.Unproof unit name) asks no_add no_theorem no_proof no_status no_save = asks
only_asked (variant.Prune unit name path) asks no_add no_theorem no_proof no_status no_save = asks
only_asked (variant.State unit name) asks no_add no_theorem no_proof no_status no_save = asks
only_asked (variant.Goals unit name) asks no_add no_theorem no_proof no_status no_save = asks
only_asked (variant.Needs unit name) asks no_add no_theorem no_proof no_status no_save = asks
only_asked (variant.Above unit) asks no_add no_theorem no_proof no_status no_save = asks
only_asked variant.Graph asks no_add no_theorem no_proof no_status no_save = asks
only_asked (variant.Flat unit) asks no_add no_theorem no_proof no_status no_save = asks
only_asked (variant.Obligations unit) asks no_add no_theorem no_proof no_status no_save = asks
only_asked variant.Text asks no_add no_theorem no_proof no_status no_save = asks
only_asked variant.Seal asks no_add no_theorem no_proof no_status no_save = asks
