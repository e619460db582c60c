-- The named rows are the words beside them, and the rows that the code names have the same numbers.
use Rattle.std.specs.Prelude.{◌≡◌, ℕ, List, [], ◌∷◌, map, refl}
use Rattle.kv_table.specs.Laws.{CountedRows, NamedRows}
use Rattle.kv_table.specs.Commands.{command_rows, named_commands}
use Rattle.kv_table.specs.declared.command.TheConstants as command
use Rattle.kv_table.specs.Keywords.{keyword_rows, named_keywords}
use Rattle.kv_table.specs.declared.keyword.TheConstants as keyword
use Rattle.kv_table.specs.Reasons.{reason_rows, named_reasons}
use Rattle.kv_table.specs.declared.reason.TheConstants as reason
use Rattle.kv_table.specs.Rules.{rule_rows, named_rules}
use Rattle.kv_table.specs.declared.rule.TheConstants as rule
use Rattle.kv_table.specs.States.{state_rows, named_states}
use Rattle.kv_table.specs.declared.state.TheConstants as state

pub named_rows : NamedRows
unfolding keyword_rows rule_rows command_rows state_rows reason_rows named_keywords named_rules named_commands named_states named_reasons
named_rows = (refl, refl, refl, refl, refl)

pub counted_rows : CountedRows
unfolding rule_rows state_rows reason_rows
counted_rows = (refl, refl, refl)

abbrev rows_of : List (ℕ × List ℕ) → List ℕ
rows_of named = map (λ n. n.0) named

pub code_keywords : rows_of named_keywords ≡ keyword.PROJECT ∷ keyword.UNIT ∷ keyword.BASIC ∷ keyword.ENRICH ∷ keyword.UNION ∷ keyword.RENAME ∷ keyword.PARAM ∷ keyword.USING ∷ keyword.ACTUALIZE ∷ keyword.MODULE ∷ keyword.EXPORT ∷ keyword.IMPORT ∷ keyword.BY ∷ keyword.WITH ∷ keyword.END ∷ keyword.SORT ∷ keyword.DATA ∷ keyword.FUN ∷ keyword.PRED ∷ keyword.PROC ∷ keyword.GENERATED ∷ keyword.AXIOM ∷ keyword.THEOREM ∷ keyword.PROOF ∷ keyword.QED ∷ keyword.SIMP ∷ keyword.RESTRICT ∷ keyword.EQUATING ∷ keyword.MEASURE ∷ keyword.BELOW ∷ keyword.FROM ∷ keyword.TRUE ∷ keyword.FALSE ∷ keyword.NOT ∷ keyword.AND ∷ keyword.OR ∷ keyword.ALL ∷ keyword.EX ∷ keyword.SKIP ∷ keyword.ABORT ∷ keyword.IF ∷ keyword.THEN ∷ keyword.ELSE ∷ keyword.WHILE ∷ keyword.DO ∷ keyword.VAR ∷ keyword.IN ∷ keyword.OPEN ∷ keyword.AS ∷ []
unfolding named_keywords
code_keywords = refl

pub code_rules : rows_of named_rules ≡ rule.CLOSE ∷ rule.FALSE_L ∷ rule.TRUE_R ∷ rule.NOT_L ∷ rule.NOT_R ∷ rule.AND_L ∷ rule.OR_R ∷ rule.AND_R ∷ rule.OR_L ∷ rule.IMP_L ∷ rule.IMP_R ∷ rule.IFF_L ∷ rule.IFF_R ∷ rule.DROP_L ∷ rule.DROP_R ∷ rule.CUT ∷ rule.ALL_R ∷ rule.EX_L ∷ rule.ALL_L ∷ rule.EX_R ∷ rule.REFL ∷ rule.SWAP ∷ rule.SUBST ∷ rule.USE ∷ rule.INDUCT ∷ rule.SKIP ∷ rule.ABORT ∷ rule.ASSIGN ∷ rule.SEQ ∷ rule.COND ∷ rule.LOCAL ∷ rule.UNWIND ∷ rule.CALL ∷ rule.INV ∷ rule.REC ∷ rule.DUAL ∷ rule.MONO ∷ rule.SIMP ∷ []
unfolding named_rules
code_rules = refl

pub code_commands : rows_of named_commands ≡ command.ADD ∷ command.PUT ∷ command.DROP ∷ command.THEOREM ∷ command.CHANGE ∷ command.FORGET ∷ command.PROOF ∷ command.UNPROOF ∷ command.PRUNE ∷ command.STATUS ∷ command.STATE ∷ command.GOALS ∷ command.NEEDS ∷ command.ABOVE ∷ command.GRAPH ∷ command.FLAT ∷ command.OBLIGATIONS ∷ command.TEXT ∷ command.SEAL ∷ command.SAVE ∷ []
unfolding named_commands
code_commands = refl

pub code_states : rows_of named_states ≡ state.ILL ∷ state.BROKEN ∷ state.OPEN ∷ state.PROVED ∷ state.WAITING ∷ state.CYCLIC ∷ state.IDLE ∷ state.OK ∷ state.BAD ∷ state.REFINED ∷ state.UNREFINED ∷ []
unfolding named_states
code_states = refl

pub code_reasons : rows_of named_reasons ≡ reason.CYCLE ∷ reason.MISSING ∷ reason.KIND ∷ reason.BELOW ∷ reason.CLASH ∷ reason.UNKNOWN ∷ reason.ARITY ∷ reason.SORT ∷ reason.DUPLICATE ∷ reason.PROGRAM ∷ reason.CONSTRUCTOR ∷ reason.PARTIAL ∷ reason.PROFILE ∷ reason.INJECTIVE ∷ reason.LOST ∷ reason.BODIES ∷ reason.EXPORT ∷ reason.ABSENT ∷ reason.REACH ∷ reason.LIMIT ∷ reason.UNIT ∷ reason.POSITION ∷ reason.SHAPE ∷ reason.FRESH ∷ reason.CAPTURED ∷ reason.LABEL ∷ reason.BODY ∷ reason.GENERATION ∷ reason.LARGE ∷ reason.SURPLUS ∷ []
unfolding named_reasons
code_reasons = refl
