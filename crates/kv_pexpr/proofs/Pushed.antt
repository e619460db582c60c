-- One more term at the end of a list.
use Rattle.std.proofs.Common.{◌≡◌, List, [], ◌∷◌, ◌++◌, max, refl, ap, ◌∙◌, sym}
use Rattle.std.specs.Prelude.{map}
use Rattle.kv_raw.specs.RawTrees as P
use Rattle.kv_raw.specs.RawBridge.{raw_term, raw_terms}
use Rattle.kv_raw.specs.RawCount.{raw_term_depth, raw_terms_depth}
use Rattle.kv_raw.specs.declared.raws.RawTerm.{RawTerm}
use Rattle.kv_pexpr.proofs.TermTurns.{ahead, depth_push}

map_push : (args : List RawTerm) (t : RawTerm) → map raw_term (args ++ (t ∷ [])) ≡ map raw_term args ++ (raw_term t ∷ [])
map_push [] t = refl
map_push (u ∷ us) t = ap (λ xs. raw_term u ∷ xs) (map_push us t)

raw_ahead : (args : List RawTerm) → raw_terms args ≡ ahead (map raw_term args) P.RawTerms.none
raw_ahead [] = refl
raw_ahead (u ∷ us) = ap (P.RawTerms.more (raw_term u)) (raw_ahead us)

module _ (args pushed : List RawTerm) (t : RawTerm) (e : pushed ≡ args ++ (t ∷ [])) where
  pub pushed_map : map raw_term pushed ≡ map raw_term args ++ (raw_term t ∷ [])
  pushed_map = ap (map raw_term) e ∙ map_push args t

  pub pushed_terms : raw_terms pushed ≡ ahead (map raw_term args ++ (raw_term t ∷ [])) P.RawTerms.none
  pushed_terms = raw_ahead pushed ∙ ap (λ xs. ahead xs P.RawTerms.none) pushed_map

  pub pushed_depth : raw_terms_depth (raw_terms pushed) ≡ max (raw_terms_depth (raw_terms args)) (raw_term_depth (raw_term t))
  pushed_depth = ap raw_terms_depth pushed_terms ∙ depth_push (map raw_term args) (raw_term t) ∙ ap (λ x. max (raw_terms_depth x) (raw_term_depth (raw_term t))) (sym (raw_ahead args))
