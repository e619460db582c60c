-- What the loop over the commands keeps, and what each way out of it says.
use Rattle.std.proofs.Common.{◌≡◌, ◌≢◌, ◌≤◌, ℕ, Bool, true, false, List, [], ◌∷◌, ◌++◌, Option, Some, None, IfSome, IfNone, Ok, Err, refl, sym, ◌∙◌, ap, subst, append_assoc, inl, inr, arith}
use Rattle.std.proofs.lemmas.List.{append-nil}
use Rattle.std.specs.Prelude.{IsSome}
use Rattle.kv_io.specs.Framing.{Cutting, Ending, and_first, at_once, cut_of, whole_commands}
use Rattle.kv_io.specs.Framing as framing
use Rattle.kv_io.specs.Lines.{Ahead, IsCommand, IsEnd, SawEnd, Says, Tells, cut_left, nothing_ahead}
use Rattle.kv_io.specs.Outside.{Adds, AddsFront, Rose}
use Rattle.kv_io.specs.declared.lines.Next.{Next}
use Rattle.kv_io.specs.declared.lines.Next.TheVariants as N
use Rattle.kv_session.specs.Sessions.{IsAnswered, text_of}
use Rattle.kv_syn.specs.Projects as P
use Rattle.kv_top.specs.Runs.{Told, Took, TookAll, TookFirst, Reached, IsServed, Served, Serves}
use Rattle.kv_top.specs.Serving.{Saves, TurnOf, Takes}
use Rattle.kv_top.specs.Turns.{Turn, IsTurn, project_after, commands_of, answers_of}
use Rattle.kv_top.specs.declared.status.Status.{Status}
use Rattle.kv_top.specs.declared.status.Status.TheVariants.{Done, Usage, ReadFault, WriteFault, NoMemory, StoreFault, Refused, Cut, TooLong, NoProject}
use Rattle.kv_top.proofs.Turns.{commands_of-push, project_after-push, follow-push, keeps-push, took-push, took-none, took-same}

-- a count that rose in a later part of a call rose in the call
pub rose-from : (before mid now : ℕ) → before ≤ mid → Rose mid now → Rose before now
rose-from before mid now h r = elim r as (λ _. Rose before now) [ inl more ↦ inl (omega (arith, h, more)) | inr top ↦ inr top ]

-- ---- one command

pub saves-nothing : (asked : Bool) (project : P.Project) (held : Option (Option (List ℕ))) → asked ≡ false → Saves asked project held held (Ok tt)
saves-nothing asked project None e = tt
saves-nothing asked project (Some file) e = rw e refl

pub saves-text : (asked : Bool) (project : P.Project) (held held' : Option (Option (List ℕ))) (text : List ℕ) → asked ≡ true → text ≡ text_of project
    → (IsSome held → held' ≡ Some (Some text)) → Saves asked project held held' (Ok tt)
saves-text asked project None held' text e same told = tt
saves-text asked project (Some file) held' text e same told = rw e (told refl ∙ ap (λ (t : List ℕ). Some (Some t)) same)

abbrev turn_of : (project : P.Project) (command answer : List ℕ) (saves : Bool) (after : P.Project) → IsAnswered project command answer saves after → TurnOf project command
turn_of project command answer saves after is = record { turn = record { command = command; answer = answer; saves = saves; after = after }; asks = refl; answered = is }

pub takes-unsaved : (project : P.Project) (command answer : List ℕ) (saves : Bool) (after : P.Project) (wrote : Option (List ℕ)) (old new : Option (Option (List ℕ)))
    (status : Status) → IsAnswered project command answer saves after → Saves saves after old new (Err status)
    → Takes project command after (record { wrote = wrote; held = old }) (record { wrote = wrote; held = new }) (Err status)
takes-unsaved project command answer saves after wrote old new StoreFault is h = (turn_of project command answer saves after is, h.0, refl, h.1)
takes-unsaved project command answer saves after wrote old new NoMemory is h = (refl, h)
takes-unsaved project command answer saves after wrote old new Done is h = absurd h
takes-unsaved project command answer saves after wrote old new Usage is h = absurd h
takes-unsaved project command answer saves after wrote old new ReadFault is h = absurd h
takes-unsaved project command answer saves after wrote old new WriteFault is h = absurd h
takes-unsaved project command answer saves after wrote old new Refused is h = absurd h
takes-unsaved project command answer saves after wrote old new Cut is h = absurd h
takes-unsaved project command answer saves after wrote old new TooLong is h = absurd h
takes-unsaved project command answer saves after wrote old new NoProject is h = absurd h

pub takes-written : (project : P.Project) (command answer : List ℕ) (saves : Bool) (after : P.Project) (old new : Told) → IsAnswered project command answer saves after
    → Saves saves after old.held new.held (Ok tt) → Adds old.wrote answer new.wrote → Takes project command after old new (Ok tt)
takes-written project command answer saves after old new is saved wrote = (turn_of project command answer saves after is, refl, wrote, saved)

pub takes-front : (project : P.Project) (command answer : List ℕ) (saves : Bool) (after : P.Project) (old new : Told) → IsAnswered project command answer saves after
    → Saves saves after old.held new.held (Ok tt) → AddsFront old.wrote answer new.wrote → Takes project command after old new (Err WriteFault)
takes-front project command answer saves after old new is saved wrote = (turn_of project command answer saves after is, wrote, saved)

pub takes-served : (project : P.Project) (command : List ℕ) (after : P.Project) (old new : Told) (status : Status) → Takes project command after old new (Err status)
    → IsServed status
takes-served project command after old new Usage h = h
takes-served project command after old new Refused h = h
takes-served project command after old new NoProject h = h
takes-served project command after old new status h = tt

pub takes-unread : (project : P.Project) (command : List ℕ) (after : P.Project) (old new : Told) (status : Status) → Takes project command after old new (Err status)
    → status ≡ ReadFault → ⊥
takes-unread project command after old new status h e = subst (λ (s : Status). Takes project command after old new (Err s)) e h

-- ---- the loop

abbrev cutting : List (List ℕ) → Ending → Cutting
cutting commands how = record { commands = commands; ending = how }

-- these commands come before a cutting
abbrev then_cut : List (List ℕ) → Cutting → Cutting
then_cut commands rest = cutting (commands ++ rest.commands) rest.ending

-- the turns so far were taken, of the bytes that were taken from the input, and this is ahead
pub record ServingAt (project : P.Project) (input : List ℕ) (left : Option (List ℕ)) (old new : Told) (after : P.Project) (ahead : Ahead) : Type 0 where
  turns : List Turn
  taken : List ℕ
  rest : List ℕ
  took : Took project turns old new
  stands : after ≡ project_after project turns
  split : input ≡ taken ++ rest
  left_is : left ≡ Some rest
  cut : cut_of input ≡ then_cut (commands_of turns) (cut_left ahead rest)
  whole : ahead.ended ≡ false → (more : List ℕ) → whole_commands (taken ++ more) ≡ commands_of turns ++ whole_commands (ahead.bytes ++ more)
  end : SawEnd ahead rest

-- the same, where the input tells
pub record Serving (project : P.Project) (left left' : Option (List ℕ)) (old new : Told) (after : P.Project) (ahead : Ahead) : Type 0 where
  at : IfSome left (λ input. ServingAt project input left' old new after ahead)

pub serving-none : (project : P.Project) (left : Option (List ℕ)) (start : Told) (ahead : Ahead) → ahead ≡ nothing_ahead
    → ((input : List ℕ) → cut_left ahead input ≡ cut_of input) → Serving project left left start start project ahead
serving-none project None start ahead e starts = record { at = tt }
serving-none project (Some input) start ahead e starts = record {
  at = record {
    turns = [];
    taken = [];
    rest = input;
    took = took-none project start;
    stands = refl;
    split = refl;
    left_is = refl;
    cut = sym (starts input);
    whole = λ off more. ap (λ (a : Ahead). whole_commands (a.bytes ++ more)) (sym e);
    end = λ on. let off : ahead.ended ≡ false = ap (λ (a : Ahead). a.ended) e in cc;
  };
}

-- a command was read, and isn't answered yet
pub record PendingAt (project : P.Project) (input : List ℕ) (left : Option (List ℕ)) (old new : Told) (after : P.Project) (command : List ℕ) (ahead : Ahead) : Type 0 where
  turns : List Turn
  taken : List ℕ
  rest : List ℕ
  took : Took project turns old new
  stands : after ≡ project_after project turns
  split : input ≡ taken ++ rest
  left_is : left ≡ Some rest
  cut : cut_of input ≡ then_cut (commands_of turns) (and_first command (cut_left ahead rest))
  whole : ahead.ended ≡ false → (more : List ℕ) → whole_commands (taken ++ more) ≡ (commands_of turns ++ command ∷ []) ++ whole_commands (ahead.bytes ++ more)
  end : SawEnd ahead rest

off_before : (a b : Bool) → (a ≡ true → b ≡ true) → b ≡ false → a ≡ false
off_before false b h off = refl
off_before true b h off = let on : b ≡ true = h refl in cc

pending : (project : P.Project) (input : List ℕ) (left left' : Option (List ℕ)) (old new : Told) (after : P.Project) (ahead ahead' : Ahead) (command : List ℕ)
    → ServingAt project input left old new after ahead → Tells ahead left (N.Command command) ahead' left' → (ahead.ended ≡ true → ahead'.ended ≡ true)
    → PendingAt project input left' old new after command ahead'
pending project input left left' old new after ahead ahead' command s tells later =
    let n = (subst (λ (l : Option (List ℕ)). Tells ahead l (N.Command command) ahead' left') s.left_is tells).told in
    let piece : List ℕ = n.0 in
    let rest : List ℕ = n.1 in
    let says : Says ahead piece rest (N.Command command) ahead' = n.4 in
    record {
      turns = s.turns;
      taken = s.taken ++ piece;
      rest = rest;
      took = s.took;
      stands = s.stands;
      split = s.split ∙ ap (λ (r : List ℕ). s.taken ++ r) n.2 ∙ sym (append_assoc s.taken piece rest);
      left_is = n.3;
      cut = s.cut ∙ ap (λ (r : List ℕ). then_cut (commands_of s.turns) (cut_left ahead r)) n.2 ∙ ap (λ (c : Cutting). then_cut (commands_of s.turns) c) says.next;
      whole = λ off more.
          ap (λ (b : List ℕ). whole_commands b) (append_assoc s.taken piece more)
          ∙ s.whole (off_before ahead.ended ahead'.ended later off) (piece ++ more)
          ∙ ap (λ (b : List ℕ). commands_of s.turns ++ whole_commands b) (sym (append_assoc ahead.bytes piece more))
          ∙ ap (λ (w : List (List ℕ)). commands_of s.turns ++ w) (says.whole off more)
          ∙ sym (append_assoc (commands_of s.turns) (command ∷ []) (whole_commands (ahead'.bytes ++ more)));
      end = says.end (subst (λ (r : List ℕ). SawEnd ahead r) n.2 s.end);
    }

pub serving-more : (project : P.Project) (left left' left'' : Option (List ℕ)) (old mid new : Told) (here after : P.Project) (ahead ahead' : Ahead) (command asked : List ℕ)
    → Serving project left left' old mid here ahead → Tells ahead left' (N.Command command) ahead' left'' → (ahead.ended ≡ true → ahead'.ended ≡ true)
    → asked ≡ command → Takes here asked after mid new (Ok tt) → Serving project left left'' old new after ahead'
serving-more project None left' left'' old mid new here after ahead ahead' command asked serving tells later same takes = record { at = tt }
serving-more project (Some input) left' left'' old mid new here after ahead ahead' command asked serving tells later same takes =
    let s = pending project input left' left'' old mid here ahead ahead' command serving.at tells later in
    let one = takes.0 in
    let turn : Turn = one.turn in
    let is : IsTurn (project_after project s.turns) turn = subst (λ (p : P.Project). IsTurn p turn) s.stands one.answered in
    let tail : Cutting = cut_left ahead' s.rest in
    let commands : commands_of s.turns ++ command ∷ [] ≡ commands_of (s.turns ++ turn ∷ []) =
    ap (λ (c : List ℕ). commands_of s.turns ++ c ∷ []) (sym (one.asks ∙ same)) ∙ sym (commands_of-push s.turns turn) in
    record {
      at = record {
        turns = s.turns ++ turn ∷ [];
        taken = s.taken;
        rest = s.rest;
        took = took-push project s.turns turn old mid new s.took is takes.2 takes.3;
        stands = takes.1 ∙ sym (project_after-push project s.turns turn);
        split = s.split;
        left_is = s.left_is;
        cut = s.cut ∙ ap (λ (cs : List (List ℕ)). cutting cs tail.ending)
            (sym (append_assoc (commands_of s.turns) (command ∷ []) tail.commands) ∙ ap (λ (cs : List (List ℕ)). cs ++ tail.commands) commands);
        whole = λ off more. s.whole off more ∙ ap (λ (cs : List (List ℕ)). cs ++ whole_commands (ahead'.bytes ++ more)) commands;
        end = s.end;
      };
    }

-- ---- a command that fails

abbrev reached : (project : P.Project) (input : List ℕ) (left : Option (List ℕ)) (old mid : Told) (here : P.Project) (command : List ℕ) (ahead : Ahead)
    → (s : PendingAt project input left old mid here command ahead) → (one : TurnOf here command) → Reached project input
reached project input left old mid here command ahead s one = record {
  turns = s.turns;
  turn = one.turn;
  more = (cut_left ahead s.rest).commands;
  follow = follow-push project s.turns one.turn s.took.follow (subst (λ (p : P.Project). IsTurn p one.turn) s.stands one.answered);
  first = ap (λ (c : Cutting). c.commands) s.cut ∙ ap (λ (c : List ℕ). commands_of s.turns ++ c ∷ (cut_left ahead s.rest).commands) (sym one.asks);
}

error_at : (project : P.Project) (input : List ℕ) (left : Option (List ℕ)) (old mid new : Told) (here after : P.Project) (command : List ℕ) (ahead : Ahead) (status : Status)
    → (s : PendingAt project input left old mid here command ahead) → Takes here command after mid new (Err status) → Served project input s.rest old new status
error_at project input left old mid new here after command ahead WriteFault s takes = (
  reached project input left old mid here command ahead s takes.0,
  (mid.wrote, s.took.wrote, takes.1),
  keeps-push old.held mid.held new.held s.turns takes.0.turn s.took.held takes.2,
)
error_at project input left old mid new here after command ahead StoreFault s takes = (
  reached project input left old mid here command ahead s takes.0,
  takes.1,
  subst (λ (w : Option (List ℕ)). Adds old.wrote (answers_of s.turns) w) (sym takes.2) s.took.wrote,
  takes.3,
)
error_at project input left old mid new here after command ahead NoMemory s takes = record {
  turns = s.turns;
  more = command ∷ (cut_left ahead s.rest).commands;
  took = took-same project s.turns old mid new s.took takes.0 takes.1;
  first = ap (λ (c : Cutting). c.commands) s.cut;
}
error_at project input left old mid new here after command ahead Done s takes = absurd takes
error_at project input left old mid new here after command ahead Usage s takes = absurd takes
error_at project input left old mid new here after command ahead ReadFault s takes = absurd takes
error_at project input left old mid new here after command ahead Refused s takes = absurd takes
error_at project input left old mid new here after command ahead Cut s takes = absurd takes
error_at project input left old mid new here after command ahead TooLong s takes = absurd takes
error_at project input left old mid new here after command ahead NoProject s takes = absurd takes

pub served-error : (project : P.Project) (left left' left'' : Option (List ℕ)) (old mid new : Told) (here after : P.Project) (ahead ahead' : Ahead) (command asked : List ℕ)
    (status : Status) → Serving project left left' old mid here ahead → Tells ahead left' (N.Command command) ahead' left'' → (ahead.ended ≡ true → ahead'.ended ≡ true)
    → asked ≡ command → Takes here asked after mid new (Err status) → Serves project left left'' old new status
served-error project None left' left'' old mid new here after ahead ahead' command asked status serving tells later same takes = record { told = tt }
served-error project (Some input) left' left'' old mid new here after ahead ahead' command asked status serving tells later same takes =
    let s = pending project input left' left'' old mid here ahead ahead' command serving.at tells later in
    let takes' = subst (λ (c : List ℕ). Takes here c after mid new (Err status)) same takes in
    record { told = (s.rest, s.left_is, error_at project input left'' old mid new here after command ahead' status s takes') }

-- ---- the end of the input, and a source that fails

-- the status for an answer that is no command
abbrev pub status_at : Next → Status
status_at (N.Command command) = Usage
status_at N.End = Done
status_at N.Cut = Cut
status_at N.TooLong = TooLong
status_at N.ReadFault = ReadFault
status_at N.NoMemory = NoMemory

-- what is known of the call that gave such an answer
pub record IsStop (ahead : Ahead) (stop : Next) (ahead' : Ahead) : Type 0 where
  pub no_command : ¬ (IsCommand stop)
  pub end : IsEnd stop → ahead'.ended ≡ true
  pub no_fault : ahead.ended ≡ true → stop ≢ N.ReadFault

is_false : (b : Bool) → ¬ (b ≡ true) → b ≡ false
is_false false h = refl
is_false true h = absurd (h refl)

all_at : (project : P.Project) (input : List ℕ) (left : Option (List ℕ)) (old new : Told) (after : P.Project) (ahead : Ahead) (how : Ending)
    → (s : ServingAt project input left old new after ahead) → cut_left ahead s.rest ≡ at_once how → TookAll project input how old new
all_at project input left old new after ahead how s e = record {
  turns = s.turns;
  took = s.took;
  all = s.cut ∙ ap (λ (c : Cutting). then_cut (commands_of s.turns) c) e ∙ ap (λ (cs : List (List ℕ)). cutting cs how) (append-nil (commands_of s.turns));
}

abbrev first_at : (project : P.Project) (input : List ℕ) (left : Option (List ℕ)) (old new : Told) (after : P.Project) (ahead : Ahead)
    → ServingAt project input left old new after ahead → TookFirst project input old new
first_at project input left old new after ahead s = record {
  turns = s.turns;
  more = (cut_left ahead s.rest).commands;
  took = s.took;
  first = ap (λ (c : Cutting). c.commands) s.cut;
}

stop_at : (project : P.Project) (input : List ℕ) (left : Option (List ℕ)) (old new : Told) (after : P.Project) (ahead ahead' : Ahead) (piece rest : List ℕ) (stop : Next)
    → (s : ServingAt project input left old new after ahead) → s.rest ≡ piece ++ rest → Says ahead piece rest stop ahead' → IsStop ahead stop ahead'
    → Served project input rest old new (status_at stop)
stop_at project input left old new after ahead ahead' piece rest (N.Command command) s e says is = absurd (is.no_command tt)
stop_at project input left old new after ahead ahead' piece rest N.End s e says is = (
  all_at project input left old new after ahead framing.End s (ap (λ (r : List ℕ). cut_left ahead r) e ∙ says.next),
  says.end (subst (λ (r : List ℕ). SawEnd ahead r) e s.end) (is.end tt),
)
stop_at project input left old new after ahead ahead' piece rest N.Cut s e says is =
    all_at project input left old new after ahead framing.Cut s (ap (λ (r : List ℕ). cut_left ahead r) e ∙ says.next)
stop_at project input left old new after ahead ahead' piece rest N.TooLong s e says is =
    all_at project input left old new after ahead framing.TooLong s (ap (λ (r : List ℕ). cut_left ahead r) e ∙ says.next)
stop_at project input left old new after ahead ahead' piece rest N.ReadFault s e says is = record {
  answered = first_at project input left old new after ahead s;
  taken = s.taken ++ piece;
  split = s.split ∙ ap (λ (r : List ℕ). s.taken ++ r) e ∙ sym (append_assoc s.taken piece rest);
  whole = sym (s.whole (is_false ahead.ended (λ on. is.no_fault on refl)) piece
      ∙ ap (λ (w : List (List ℕ)). commands_of s.turns ++ w) says.whole ∙ append-nil (commands_of s.turns));
}
stop_at project input left old new after ahead ahead' piece rest N.NoMemory s e says is = first_at project input left old new after ahead s

pub served-stop : (project : P.Project) (left left' left'' : Option (List ℕ)) (old new : Told) (after : P.Project) (ahead ahead' : Ahead) (stop : Next)
    → Serving project left left' old new after ahead → Tells ahead left' stop ahead' left'' → IsStop ahead stop ahead'
    → Serves project left left'' old new (status_at stop)
served-stop project None left' left'' old new after ahead ahead' stop serving tells is = record { told = tt }
served-stop project (Some input) left' left'' old new after ahead ahead' stop serving tells is =
    let s = serving.at in
    let n = (subst (λ (l : Option (List ℕ)). Tells ahead l stop ahead' left'') s.left_is tells).told in
    record { told = (n.1, n.3, stop_at project input left' old new after ahead ahead' n.0 n.1 stop s n.2 n.4 is) }

-- nothing was answered, for want of memory
pub served-none : (project : P.Project) (left : Option (List ℕ)) (start : Told) → Serves project left left start start NoMemory
served-none project None start = record { told = tt }
served-none project (Some input) start = record {
  told = (input, refl, record { turns = []; more = (cut_of input).commands; took = took-none project start; first = refl });
}

pub told-none : {A : Type 0} {T : Type 0} (stop : Option A) → stop ≡ None → IfNone stop T → T
told-none None e t = t
told-none (Some stop) e t = cc
