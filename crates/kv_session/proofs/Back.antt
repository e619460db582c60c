-- The canonical text of a project reads as that project.
use Rattle.std.proofs.Common.{List, [], sym, subst}
use Rattle.kv_lex.specs.declared.token.TokenKind.{TokenKind}
use Rattle.kv_print.specs.Layout.{project_pieces, project_text}
use Rattle.kv_punit.specs.Grammar.{IsProject}
use Rattle.kv_punit.proofs.Texts.{one_project}
use Rattle.kv_punit.specs.ReadsAs.{Reads}
use Rattle.kv_session.specs.Canonical.{ReadsBack}
use Rattle.kv_session.specs.Spellable.{IsSpellable}
use Rattle.kv_session.proofs.Fitting.{project_fits}
use Rattle.kv_session.proofs.Lexes.{lexes_whole}
use Rattle.kv_session.proofs.Reading.{project_reads}
use Rattle.kv_session.proofs.Spelt.{spelt}
use Rattle.kv_session.proofs.Tokens.{before}
use Rattle.kv_syn.specs.Projects.{Project}

pub text_reads : (project : Project) → IsSpellable project → Reads (project_text project) project
text_reads project is =
    let read = lexes_whole (project_text project) (before (project_pieces project) []) (spelt (project_pieces project) (project_fits project is)) in
    record {
      tokens = read.0;
      lexes = read.1;
      spelt = subst (λ (ks : List TokenKind). IsProject ks project) (sym read.2) (project_reads project is);
      wellformed = is.wellformed;
      few_steps = is.few_steps;
      few_units = is.few_units;
      few_theorems = is.few_theorems;
    }

pub reads_back : ReadsBack
reads_back project is other =
    (λ reads. one_project (project_text project) other project reads (text_reads project is), λ same. subst (Reads (project_text project)) (sym same) (text_reads project is))
