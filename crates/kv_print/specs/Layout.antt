-- The canonical text of a project, of the forms that projects have so far: basic units.
use Rattle.std.specs.Prelude.{ℕ, Bool, true, false, List, [], ◌∷◌, ◌++◌, codes, flat_map}
use Rattle.kv_syn.specs.Scripts.{Script}
use Rattle.kv_names.specs.Names.{Name}
use Rattle.kv_syn.specs.Projects.{Theorem, Proof, Item, Kind, Project}
use Rattle.kv_syn.specs.Projects as P
use Rattle.kv_print.specs.Pieces.{Piece, spell}
use Rattle.kv_print.specs.Pieces.Piece.{Space, Break, Word, Ident, Number, Label, Mark}
use Rattle.kv_print.specs.Forms.{form_pieces}
use Rattle.kv_print.specs.Items.{arguments_pieces, body_pieces, parameters_pieces, sorts_pieces}
use Rattle.kv_print.specs.Scripts.{script_pieces}

-- an item on a line after two spaces: its keyword and its name, what stands behind them, and a semicolon
abbrev pub item_line : List ℕ → Name → List Piece → List Piece
item_line keyword name behind = Space ∷ Space ∷ Word keyword ∷ Space ∷ Ident name ∷ behind ++ (Mark (codes ";") ∷ Break ∷ [])

abbrev pub item_pieces : Item → List Piece
item_pieces (Item.Sort s) = item_line (codes "sort") s []
item_pieces (Item.Fun f args result) = item_line (codes "fun") f (Space ∷ Mark (codes ":") ∷ Space ∷ arguments_pieces args ++ Ident result ∷ [])
item_pieces (Item.Pred p args) = item_line (codes "pred") p (sorts_pieces args)
item_pieces (Item.Proc p values refs body) = item_line (codes "proc") p (parameters_pieces values refs ++ body_pieces body)
item_pieces _ = []

-- the words of a kind behind the unit's name, and its items
abbrev pub kind_pieces : Kind → List Piece
kind_pieces (Kind.Basic items) = Word (codes "basic") ∷ Break ∷ flat_map item_pieces items
kind_pieces _ = []

abbrev pub simp_pieces : Bool → List Piece
simp_pieces true = Space ∷ Word (codes "simp") ∷ []
simp_pieces false = []

abbrev pub theorem_pieces : Theorem → List Piece
theorem_pieces theorem =
    Word (codes "theorem") ∷ simp_pieces theorem.simp ++ (Space ∷ Ident theorem.name ∷ Space ∷ Mark (codes ":") ∷ Space ∷ form_pieces theorem.form) ++ Mark (codes ";") ∷ Break ∷ []

abbrev pub proof_pieces : Proof → List Piece
proof_pieces proof =
    Word (codes "proof") ∷ Space ∷ Label proof.name ∷ Space ∷ Mark (codes "=") ∷ Space ∷ script_pieces proof.script ++ Space ∷ Word (codes "qed") ∷ Break ∷ []

-- a unit up to its end, and then its theorems and its proofs, a line each
abbrev pub unit_pieces : P.Unit → List Piece
unit_pieces unit =
    Word (codes "unit") ∷ Space ∷ Ident unit.name ∷ Space ∷ kind_pieces unit.kind ++ (Word (codes "end") ∷ Break ∷ [])
    ++ flat_map theorem_pieces unit.theorems ++ flat_map proof_pieces unit.proofs

abbrev pub project_pieces : Project → List Piece
project_pieces project = Word (codes "project") ∷ Space ∷ Number 1 ∷ Break ∷ flat_map unit_pieces project

abbrev pub project_text : Project → List ℕ
project_text project = spell (project_pieces project)

abbrev pub script_text : Script → List ℕ
script_text script = spell (script_pieces script)
