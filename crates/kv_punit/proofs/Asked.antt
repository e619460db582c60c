-- The words and arguments of commands.
use Rattle.std.proofs.Common.{ℕ, ◌≡◌, List, [], ◌∷◌, refl, ap, ◌∙◌, sym, subst}
use Rattle.std.specs.Prelude.{Ok, Err, Some, Result}
use Rattle.kv_lex.specs.declared.token.TokenKind.{TokenKind}
use Rattle.kv_pexpr.specs.Gives.{Gives}
use Rattle.kv_pexpr.specs.Parse.{eat_name}
use Rattle.kv_pexpr.specs.declared.errors.ReadError.{ReadError}
use Rattle.kv_pexpr.specs.declared.errors.ReadError.TheVariants as reader
use Rattle.kv_pexpr.proofs.Steps.{some_is, given_some, name_some}
use Rattle.kv_syn.specs.Projects.{Theorem, Proof}
use Rattle.kv_syn.specs.Projects as P
use Rattle.kv_names.specs.Names.{Name}
use Rattle.kv_table.specs.Names.{row_of}
use Rattle.kv_table.specs.Commands.{command_rows}
use Rattle.kv_table.specs.Commands as command
use Rattle.kv_punit.specs.Commands.{Command}
use Rattle.kv_punit.specs.Gives.{Finds}
use Rattle.kv_punit.specs.Grammar as g
use Rattle.kv_punit.specs.Grammar.{IsStatement, IsLabelled, IsHead, IsArguments, IsCommand, text_of}
use Rattle.kv_punit.specs.Parse as spec
use Rattle.kv_punit.proofs.Alone.{no_child, ends, goes_on}
use Rattle.kv_punit.proofs.One.{one_statement, one_labelled, one_head}
use Rattle.kv_punit.proofs.Stopping.{no_more}

-- ---- the arguments of each command

pub add_only : {row : ℕ} {ts : List TokenKind} {c : Command} → IsArguments row ts c → row ≡ command.ADD → (u : P.Unit) × (c ≡ Command.Add u) × IsHead ts u []
add_only (g.add {u = u} r) e = (u, refl, r)
add_only (g.theorem r) e = absurd (cc)
add_only (g.proof r) e = absurd (cc)
add_only g.status e = absurd (cc)
add_only g.save e = absurd (cc)

-- a name and a statement
pub record Stating (ts : List TokenKind) (c : Command) : Type 0 where
  pub unit : Name
  pub rest : List TokenKind
  pub theorem : Theorem
  pub begins : eat_name ts ≡ Some (unit, rest)
  pub states : IsStatement rest theorem []
  pub is : c ≡ Command.Theorem unit theorem

pub theorem_only : {row : ℕ} {ts : List TokenKind} {c : Command} → IsArguments row ts c → row ≡ command.THEOREM → Stating ts c
theorem_only (g.add r) e = absurd (cc)
theorem_only (g.theorem {n = n} {ts = ts} {t = t} r) e = record { unit = n; rest = ts; theorem = t; begins = refl; states = r; is = refl }
theorem_only (g.proof r) e = absurd (cc)
theorem_only g.status e = absurd (cc)
theorem_only g.save e = absurd (cc)

-- a name, a label and a script
pub record Proving (ts : List TokenKind) (c : Command) : Type 0 where
  pub unit : Name
  pub rest : List TokenKind
  pub proof : Proof
  pub begins : eat_name ts ≡ Some (unit, rest)
  pub proves : IsLabelled rest proof []
  pub is : c ≡ Command.Proof unit proof

pub proof_only : {row : ℕ} {ts : List TokenKind} {c : Command} → IsArguments row ts c → row ≡ command.PROOF → Proving ts c
proof_only (g.add r) e = absurd (cc)
proof_only (g.theorem r) e = absurd (cc)
proof_only (g.proof {n = n} {ts = ts} {p = p} r) e = record { unit = n; rest = ts; proof = p; begins = refl; proves = r; is = refl }
proof_only g.status e = absurd (cc)
proof_only g.save e = absurd (cc)

pub status_only : {row : ℕ} {ts : List TokenKind} {c : Command} → IsArguments row ts c → row ≡ command.STATUS → (ts ≡ []) × (c ≡ Command.Status)
status_only (g.add r) e = absurd (cc)
status_only (g.theorem r) e = absurd (cc)
status_only (g.proof r) e = absurd (cc)
status_only g.status e = (refl, refl)
status_only g.save e = absurd (cc)

pub save_only : {row : ℕ} {ts : List TokenKind} {c : Command} → IsArguments row ts c → row ≡ command.SAVE → (ts ≡ []) × (c ≡ Command.Save)
save_only (g.add r) e = absurd (cc)
save_only (g.theorem r) e = absurd (cc)
save_only (g.proof r) e = absurd (cc)
save_only g.status e = absurd (cc)
save_only g.save e = (refl, refl)

-- no other command has arguments so far
pub no_other : {row : ℕ} {ts : List TokenKind} {c : Command} → IsArguments row ts c
    → (row ≡ command.ADD → ⊥) → (row ≡ command.THEOREM → ⊥) → (row ≡ command.PROOF → ⊥) → (row ≡ command.STATUS → ⊥) → (row ≡ command.SAVE → ⊥) → ⊥
no_other (g.add r) add theorem proof status save = add refl
no_other (g.theorem r) add theorem proof status save = theorem refl
no_other (g.proof r) add theorem proof status save = proof refl
no_other g.status add theorem proof status save = status refl
no_other g.save add theorem proof status save = save refl

-- ---- one command

same_theorem : (n m : Name) (t u : Theorem) (d : Command) → n ≡ m → t ≡ u → d ≡ Command.Theorem m u → Command.Theorem n t ≡ d
same_theorem n m t u d e f is = cc

same_proof : (n m : Name) (p q : Proof) (d : Command) → n ≡ m → p ≡ q → d ≡ Command.Proof m q → Command.Proof n p ≡ d
same_proof n m p q d e f is = cc

pub one_arguments : {row : ℕ} {ts : List TokenKind} {c d : Command} → IsArguments row ts c → IsArguments row ts d → c ≡ d
one_arguments (g.add r) s =
    let a = add_only s refl in
    ap Command.Add (one_head r a.2).0 ∙ sym a.1
one_arguments {d = d} (g.theorem {n = n} {ts = ts} {t = t} r) s =
    let a = theorem_only s refl in
    let e = some_is a.begins in
    let same : ts ≡ a.rest = ap (λ x. x.1) e in
    same_theorem n a.unit t a.theorem d (ap (λ x. x.0) e) (one_statement (subst (λ x. IsStatement x t []) same r) a.states no_more no_more).0 a.is
one_arguments {d = d} (g.proof {n = n} {ts = ts} {p = p} r) s =
    let a = proof_only s refl in
    let e = some_is a.begins in
    let same : ts ≡ a.rest = ap (λ x. x.1) e in
    same_proof n a.unit p a.proof d (ap (λ x. x.0) e) (one_labelled (subst (λ x. IsLabelled x p []) same r) a.proves no_child no_child).0 a.is
one_arguments g.status s = sym (status_only s refl).1
one_arguments g.save s = sym (save_only s refl).1

pub command_parts : {ts : List TokenKind} {c : Command} → IsCommand ts c → (row : ℕ) × (us : List TokenKind) × (spec.eat_command ts ≡ Some (row, us)) × IsArguments row us c
command_parts (g.command {row = row} {ts = us} written named r) = (row, us, rw (written, named) refl, r)

command_by : (k : TokenKind) (ks us : List TokenKind) (n : Name) (row : ℕ) (c : Command) → text_of k ≡ Some n → row_of command_rows n ≡ Some row → ks ≡ us → IsArguments row us c → IsCommand (k ∷ ks) c
command_by k ks us n row c written named e r = g.command written named (subst (λ x. IsArguments row x c) (sym e) r)

command_from : (ts us : List TokenKind) (row : ℕ) (c : Command) → spec.eat_command ts ≡ Some (row, us) → IsArguments row us c → IsCommand ts c
command_from [] us row c e r = absurd (cc)
command_from (k ∷ ks) us row c e r =
    let n = given_some (spec.eat_text (k ∷ ks)) spec.commanded e in
    let w = given_some (text_of k) (λ n. Some (n, ks)) n.1 in
    let b = given_some (row_of command_rows n.0.0) (λ row. Some (row, n.0.1)) n.2 in
    let f = some_is w.2 in
    let h = some_is b.2 in
    let named : row_of command_rows w.0 ≡ Some row = ap (λ x. row_of command_rows x.0) f ∙ b.1 ∙ ap (λ x. Some x.0) h in
    command_by k ks us w.0 row c w.1 named (ap (λ x. x.1) f ∙ ap (λ x. x.1) h) r

pub one_command : {ts : List TokenKind} {c d : Command} → IsCommand ts c → IsCommand ts d → c ≡ d
one_command {c = c} r s =
    let a = command_parts r in
    let b = command_parts s in
    let e = some_is (sym a.2 ∙ b.2) in
    one_arguments (subst (λ (x : ℕ × List TokenKind). IsArguments x.0 x.1 c) e a.3) b.3

-- ---- what the readers find

module _ {X : Type 0} (view : X → Command) (ts : List TokenKind) where
  pub no_word : {W : Type 0} (seen : W → ℕ × List TokenKind) (e : ReadError) → Gives seen (Err e) (spec.eat_command ts) → Finds view (IsCommand ts) (Err e)
  no_word seen reader.Syntax none = λ c is. let p = command_parts is in absurd (let b = p.2 in cc (b, none))
  no_word seen reader.NoMemory none = tt

  pub by_arguments : (row : ℕ) (us : List TokenKind) (r : Result X ReadError) → spec.eat_command ts ≡ Some (row, us) → Finds view (IsArguments row us) r → Finds view (IsCommand ts) r
  by_arguments row us (Ok x) begins is = command_from ts us row (view x) begins is
  by_arguments row us (Err reader.Syntax) begins none = λ c is.
      let p = command_parts is in
      none c (subst (λ (x : ℕ × List TokenKind). IsArguments x.0 x.1 c) (some_is (sym p.2 ∙ begins)) p.3)
  by_arguments row us (Err reader.NoMemory) begins none = tt

  -- a unit
  pub no_add : {W : Type 0} (seen : W → P.Unit) (e : ReadError) → Finds seen (λ u. IsHead ts u []) (Err e) → Finds view (IsArguments command.ADD ts) (Err e)
  no_add seen reader.Syntax none = λ c is. let a = add_only is refl in none a.0 a.2
  no_add seen reader.NoMemory none = tt

  -- a theorem
  pub nameless_theorem : {W : Type 0} (seen : W → Name × List TokenKind) (e : ReadError) → Gives seen (Err e) (eat_name ts) → Finds view (IsArguments command.THEOREM ts) (Err e)
  nameless_theorem seen reader.Syntax none = λ c is. let a = theorem_only is refl in absurd (let b = a.begins in cc (b, none))
  nameless_theorem seen reader.NoMemory none = tt

  pub no_theorem : {W : Type 0} (seen : W → Theorem) (e : ReadError) (n : Name) (us : List TokenKind) → eat_name ts ≡ Some (n, us) → Finds seen (λ t. IsStatement us t []) (Err e)
      → Finds view (IsArguments command.THEOREM ts) (Err e)
  no_theorem seen reader.Syntax n us begins none = λ c is.
      let a = theorem_only is refl in
      none a.theorem (subst (λ (x : Name × List TokenKind). IsStatement x.1 a.theorem []) (some_is (sym a.begins ∙ begins)) a.states)
  no_theorem seen reader.NoMemory n us begins none = tt

  -- a proof
  pub nameless_proof : {W : Type 0} (seen : W → Name × List TokenKind) (e : ReadError) → Gives seen (Err e) (eat_name ts) → Finds view (IsArguments command.PROOF ts) (Err e)
  nameless_proof seen reader.Syntax none = λ c is. let a = proof_only is refl in absurd (let b = a.begins in cc (b, none))
  nameless_proof seen reader.NoMemory none = tt

  pub no_proof : {W : Type 0} (seen : W → Proof) (e : ReadError) (n : Name) (us : List TokenKind) → eat_name ts ≡ Some (n, us) → Finds seen (λ p. IsLabelled us p []) (Err e)
      → Finds view (IsArguments command.PROOF ts) (Err e)
  no_proof seen reader.Syntax n us begins none = λ c is.
      let a = proof_only is refl in
      none a.proof (subst (λ (x : Name × List TokenKind). IsLabelled x.1 a.proof []) (some_is (sym a.begins ∙ begins)) a.proves)
  no_proof seen reader.NoMemory n us begins none = tt

  -- nothing
  pub more_than_status : {W : Type 0} (seen : W → Unit {0}) (e : ReadError) → Gives seen (Err e) (spec.end ts) → Finds view (IsArguments command.STATUS ts) (Err e)
  more_than_status seen reader.Syntax none = λ c is. goes_on ts none (status_only is refl).0
  more_than_status seen reader.NoMemory none = tt

  pub more_than_save : {W : Type 0} (seen : W → Unit {0}) (e : ReadError) → Gives seen (Err e) (spec.end ts) → Finds view (IsArguments command.SAVE ts) (Err e)
  more_than_save seen reader.Syntax none = λ c is. goes_on ts none (save_only is refl).0
  more_than_save seen reader.NoMemory none = tt

pub status_found : (ts : List TokenKind) → spec.end ts ≡ Some tt → IsArguments command.STATUS ts Command.Status
status_found ts e = rw (ends ts e) g.status

pub save_found : (ts : List TokenKind) → spec.end ts ≡ Some tt → IsArguments command.SAVE ts Command.Save
save_found ts e = rw (ends ts e) g.save

pub theorem_found : (ts us : List TokenKind) (n : Name) (t : Theorem) → eat_name ts ≡ Some (n, us) → IsStatement us t [] → IsArguments command.THEOREM ts (Command.Theorem n t)
theorem_found ts us n t begins is = rw (name_some ts (n, us) begins) (g.theorem is)

pub proof_found : (ts us : List TokenKind) (n : Name) (p : Proof) → eat_name ts ≡ Some (n, us) → IsLabelled us p [] → IsArguments command.PROOF ts (Command.Proof n p)
proof_found ts us n p begins is = rw (name_some ts (n, us) begins) (g.proof is)
