-- A text is answered in one way.
use Rattle.std.proofs.Common.{ℕ, ◌≡◌, Bool, List, Some, None, Ok, Err, refl, sym, ap, subst, ◌∙◌}
use Rattle.kv_fresh.specs.States.{table_of}
use Rattle.kv_lex.specs.Tokens.{lexed}
use Rattle.kv_print.specs.Layout.{project_text}
use Rattle.kv_punit.proofs.First.{faulty_unread, one_first}
use Rattle.kv_punit.specs.FirstFault.{command_faults, text_faults}
use Rattle.kv_punit.proofs.Lone.{one_command, one_of}
use Rattle.kv_punit.proofs.Texts.{one_project}
use Rattle.kv_punit.specs.Commands.{Command, HasShortScript, plain_command}
use Rattle.kv_punit.specs.Grammar.{IsCommand}
use Rattle.kv_punit.specs.Readings.{ReadsCommand}
use Rattle.kv_punit.specs.declared.errors.TextError.{TextError}
use Rattle.kv_session.specs.Edits.{Edit, edited}
use Rattle.kv_query.specs.Replies.{status_text}
use Rattle.kv_session.specs.Replies.{accepted_text, fault_text, refused_text}
use Rattle.kv_session.specs.Sessions.{HasFault, IsAnswered, IsTable, OneAnswer, accepted, edit_of, refused, save, status, unread}
use Rattle.kv_session.specs.declared.errors.Refusal.{Refusal}
use Rattle.kv_syn.specs.Projects as P
use Rattle.kv_syn.specs.declared.outcomes.Table.{Table}

-- a text with a fault is no command
no_reading : (text : List ℕ) (fault : TextError) (command : Command) → HasFault text fault → ReadsCommand text command → ⊥
no_reading text fault command has reads = faulty_unread IsCommand HasShortScript plain_command text one_command fault command has reads

one_fault : (text : List ℕ) (f g : TextError) → HasFault text f → HasFault text g → f ≡ g
one_fault text f g has has' =
    let e = one_first (text_faults command_faults (lexed text)) (Some f) (Some g) has has' in
    cc

same_command : {text : List ℕ} {c d : Command} → ReadsCommand text c → ReadsCommand text d → c ≡ d
same_command {text} {c} {d} r s = one_of IsCommand HasShortScript plain_command text one_command c d r s

some_is : {e f : Edit} → Some e ≡ Some f → e ≡ f
some_is e = cc

same_edit : {text : List ℕ} {c d : Command} {e f : Edit} → ReadsCommand text c → ReadsCommand text d → edit_of c ≡ Some e → edit_of d ≡ Some f → e ≡ f
same_edit r s is other = some_is (sym is ∙ ap edit_of (same_command r s) ∙ other)

not_none : {e : Edit} → Some e ≡ None → ⊥
not_none e = absurd (cc)

-- an edit is no query
no_edit : {text : List ℕ} {c d : Command} {e : Edit} → ReadsCommand text c → edit_of c ≡ Some e → ReadsCommand text d → edit_of d ≡ None → ⊥
no_edit r is s none = not_none (sym is ∙ ap edit_of (same_command r s) ∙ none)

not_save : Command.Status ≡ Command.Save → ⊥
not_save e = absurd (cc)

same_text : {f g : TextError} {a b : List ℕ} → f ≡ g → fault_text f ≡ Some a → fault_text g ≡ Some b → a ≡ b
same_text same is other = let e = sym is ∙ ap fault_text same ∙ other in cc

same_refusal : (p : P.Project) {e f : Edit} {r s : Refusal} → e ≡ f → edited p e ≡ Err r → edited p f ≡ Err s → r ≡ s
same_refusal p same is other = let e = sym is ∙ ap (edited p) same ∙ other in cc

same_after : (p : P.Project) {q q' : P.Project} {e f : Edit} → e ≡ f → edited p e ≡ Ok q → edited p f ≡ Ok q' → q ≡ q'
same_after p same is other = let e = sym is ∙ ap (edited p) same ∙ other in cc

not_both_ways : (p : P.Project) {q : P.Project} {e f : Edit} {r : Refusal} → e ≡ f → edited p e ≡ Ok q → edited p f ≡ Err r → ⊥
not_both_ways p same is other = absurd (let e = sym is ∙ ap (edited p) same ∙ other in cc)

one_table : (p q : P.Project) (t u : Table) → p ≡ q → IsTable p t → IsTable q u → t ≡ u
one_table p q t u same is other =
    let here = subst (λ x. IsTable x u) (sym same) other in
    is.2 ∙ ap table_of (one_project (project_text p) is.0 here.0 is.1 here.1) ∙ sym here.2

abbrev IsSame : (answer answer' : List ℕ) (saves saves' : Bool) (after after' : P.Project) → Type 0
IsSame answer answer' saves saves' after after' = (answer ≡ answer') × (saves ≡ saves') × (after ≡ after')

one_way : {p : P.Project} {text a b : List ℕ} {s t : Bool} {q q' : P.Project} → IsAnswered p text a s q → IsAnswered p text b t q' → IsSame a b s t q q'
one_way {text = text} (unread f has is) (unread g has' is') = (same_text (one_fault text f g has has') is is', refl, refl)
one_way {text = text} (unread f has is) (refused {command = c} r asks e) = absurd (no_reading text f c has r)
one_way {text = text} (unread f has is) (accepted {command = c} r asks e table) = absurd (no_reading text f c has r)
one_way {text = text} (unread f has is) (status r table) = absurd (no_reading text f Command.Status has r)
one_way {text = text} (unread f has is) (save r) = absurd (no_reading text f Command.Save has r)
one_way {text = text} (refused {command = c} r asks e) (unread f has is) = absurd (no_reading text f c has r)
one_way {p = p} (refused r asks e) (refused r' asks' e') = (ap refused_text (same_refusal p (same_edit r r' asks asks') e e'), refl, refl)
one_way {p = p} (refused r asks e) (accepted r' asks' e' table) = absurd (not_both_ways p (same_edit r' r asks' asks) e' e)
one_way (refused r asks e) (status r' table) = absurd (no_edit r asks r' refl)
one_way (refused r asks e) (save r') = absurd (no_edit r asks r' refl)
one_way {text = text} (accepted {command = c} r asks e table) (unread f has is) = absurd (no_reading text f c has r)
one_way {p = p} (accepted r asks e table) (refused r' asks' e') = absurd (not_both_ways p (same_edit r r' asks asks') e e')
one_way {p = p} (accepted {after = q} {table = t} r asks e is) (accepted {after = q'} {table = u} r' asks' e' is') =
    let same = same_after p (same_edit r r' asks asks') e e' in
    (ap accepted_text (one_table q q' t u same is is'), refl, same)
one_way (accepted r asks e table) (status r' table') = absurd (no_edit r asks r' refl)
one_way (accepted r asks e table) (save r') = absurd (no_edit r asks r' refl)
one_way {text = text} (status r table) (unread f has is) = absurd (no_reading text f Command.Status has r)
one_way (status r table) (refused r' asks' e') = absurd (no_edit r' asks' r refl)
one_way (status r table) (accepted r' asks' e' table') = absurd (no_edit r' asks' r refl)
one_way {p = p} (status {table = t} r is) (status {table = u} r' is') = (ap status_text (one_table p p t u refl is is'), refl, refl)
one_way (status r is) (save r') = absurd (not_save (same_command r r'))
one_way {text = text} (save r) (unread f has is) = absurd (no_reading text f Command.Save has r)
one_way (save r) (refused r' asks' e') = absurd (no_edit r' asks' r refl)
one_way (save r) (accepted r' asks' e' table) = absurd (no_edit r' asks' r refl)
one_way (save r) (status r' table) = absurd (not_save (same_command r' r))
one_way (save r) (save r') = (refl, refl, refl)

pub one_answer : OneAnswer
one_answer project text answer answer' saves saves' after after' is is' = one_way is is'
