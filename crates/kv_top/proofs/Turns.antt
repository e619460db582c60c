-- One more turn behind others.
use Rattle.std.proofs.Common.{◌≡◌, ℕ, List, [], ◌∷◌, ◌++◌, Option, Some, None, refl, sym, ◌∙◌, ap, subst, append_assoc}
use Rattle.std.proofs.lemmas.List.{append-nil}
use Rattle.kv_io.specs.Outside.{Adds}
use Rattle.kv_syn.specs.Projects as P
use Rattle.kv_top.specs.Runs.{Told, Keeps, Took}
use Rattle.kv_top.specs.Turns.{Turn, IsTurn, Follow, project_after, commands_of, answers_of, file_with, file_after}
use Rattle.kv_top.proofs.Writes.{adds-more, adds-none}

pub commands_of-push : (turns : List Turn) (turn : Turn) → commands_of (turns ++ turn ∷ []) ≡ commands_of turns ++ turn.command ∷ []
commands_of-push [] turn = refl
commands_of-push (first ∷ turns) turn = ap (λ (r : List (List ℕ)). first.command ∷ r) (commands_of-push turns turn)

answers_of-push : (turns : List Turn) (turn : Turn) → answers_of (turns ++ turn ∷ []) ≡ answers_of turns ++ turn.answer
answers_of-push [] turn = append-nil turn.answer
answers_of-push (first ∷ turns) turn =
    ap (λ (r : List ℕ). first.answer ++ r) (answers_of-push turns turn) ∙ sym (append_assoc first.answer (answers_of turns) turn.answer)

pub project_after-push : (project : P.Project) (turns : List Turn) (turn : Turn) → project_after project (turns ++ turn ∷ []) ≡ turn.after
project_after-push project [] turn = refl
project_after-push project (first ∷ turns) turn = project_after-push first.after turns turn

pub follow-push : (project : P.Project) (turns : List Turn) (turn : Turn) → Follow project turns → IsTurn (project_after project turns) turn
    → Follow project (turns ++ turn ∷ [])
follow-push project [] turn follow is = (is, tt)
follow-push project (first ∷ turns) turn follow is = (follow.0, follow-push first.after turns turn follow.1 is)

file_after-push : (file : Option (List ℕ)) (turns : List Turn) (turn : Turn) → file_after file (turns ++ turn ∷ []) ≡ file_with (file_after file turns) turn
file_after-push file [] turn = refl
file_after-push file (first ∷ turns) turn = file_after-push (file_with file first) turns turn

pub keeps-push : (old mid new : Option (Option (List ℕ))) (turns : List Turn) (turn : Turn) → Keeps old turns mid → Keeps mid (turn ∷ []) new
    → Keeps old (turns ++ turn ∷ []) new
keeps-push None mid new turns turn a b = tt
keeps-push (Some file) mid new turns turn a b =
    let one = subst (λ (held : Option (Option (List ℕ))). Keeps held (turn ∷ []) new) a b in
    one ∙ ap Some (sym (file_after-push file turns turn))

keeps-none : (held : Option (Option (List ℕ))) → Keeps held [] held
keeps-none None = tt
keeps-none (Some file) = refl

pub took-push : (project : P.Project) (turns : List Turn) (turn : Turn) (old mid new : Told) → Took project turns old mid
    → IsTurn (project_after project turns) turn → Adds mid.wrote turn.answer new.wrote → Keeps mid.held (turn ∷ []) new.held
    → Took project (turns ++ turn ∷ []) old new
took-push project turns turn old mid new took is wrote held = record {
  follow = follow-push project turns turn took.follow is;
  wrote = subst (λ (piece : List ℕ). Adds old.wrote piece new.wrote) (sym (answers_of-push turns turn)) (adds-more took.wrote wrote);
  held = keeps-push old.held mid.held new.held turns turn took.held held;
}

pub took-none : (project : P.Project) (start : Told) → Took project [] start start
took-none project start = record { follow = tt; wrote = adds-none start.wrote; held = keeps-none start.held }

-- nothing more was written or saved
pub took-same : (project : P.Project) (turns : List Turn) (old mid new : Told) → Took project turns old mid → new.wrote ≡ mid.wrote → new.held ≡ mid.held
    → Took project turns old new
took-same project turns old mid new took wrote held = record {
  follow = took.follow;
  wrote = subst (λ (w : Option (List ℕ)). Adds old.wrote (answers_of turns) w) (sym wrote) took.wrote;
  held = subst (λ (h : Option (Option (List ℕ))). Keeps old.held turns h) (sym held) took.held;
}
