use Rattle.std.proofs.Common.{ap}
use Rattle.kv_punit.specs.Commands.{plain_command}
use Rattle.kv_punit.specs.declared.commands.Command as code
use Rattle.kv_session.proofs.Answered.{asked, edit_obeyed, only_asked, save_obeyed, status_obeyed}
use Rattle.kv_session.proofs.Sound.{edit_spellable}
use Rattle.kv_session.specs.Edits as spec
use Rattle.kv_session.specs.Sessions.{edit_of, project_of}
use Rattle.kv_syn.specs.ProjectBridge.{plain_proof, plain_theorem, plain_unit}
use Rattle.kv_session.proofs.session.Session.obey.Goals as goal

pub edit-requires-clause-spelt : goal.edit-requires-clause-spelt
edit-requires-clause-spelt g c =
    edit_spellable c.requires.spelt.0 (plain_command c.args.command) (spec.Edit.Add (plain_unit c.in-Add.unit)) c.requires.spelt.1
    (ap (λ (k : code.Command). edit_of (plain_command k)) c.in-Add.is)

pub edit-requires-in-Theorem-clause-spelt : goal.edit-requires-in-Theorem-clause-spelt
edit-requires-in-Theorem-clause-spelt g c =
    edit_spellable c.requires.spelt.0 (plain_command c.args.command) (spec.Edit.Theorem c.in-Theorem.unit (plain_theorem c.in-Theorem.theorem)) c.requires.spelt.1
    (ap (λ (k : code.Command). edit_of (plain_command k)) c.in-Theorem.is)

pub edit-requires-in-Proof-clause-spelt : goal.edit-requires-in-Proof-clause-spelt
edit-requires-in-Proof-clause-spelt g c =
    edit_spellable c.requires.spelt.0 (plain_command c.args.command) (spec.Edit.Proof c.in-Proof.unit (plain_proof c.in-Proof.proof)) c.requires.spelt.1
    (ap (λ (k : code.Command). edit_of (plain_command k)) c.in-Proof.is)

pub unreachable-requires : goal.unreachable-requires
unreachable-requires g c =
    let other = c.in_default in
    only_asked c.args.command (asked c.requires.spelt.0 (plain_command c.args.command) c.requires.spelt.1) other.not-Add other.not-Theorem other.not-Proof other.not-Status other.not-Save

pub returns-in-Add-clause-answered : goal.returns-in-Add-clause-answered
returns-in-Add-clause-answered g c =
    edit_obeyed (project_of c.args.self.now) (project_of c.edit.new.self) (plain_command c.args.command) (spec.Edit.Add (plain_unit c.in-Add.unit)) c.edit.result
    c.requires.project (ap (λ (k : code.Command). edit_of (plain_command k)) c.in-Add.is) c.edit.ensures.edited c.edit.ensures.unsaved

pub returns-in-Theorem-clause-answered : goal.returns-in-Theorem-clause-answered
returns-in-Theorem-clause-answered g c =
    let made = c.edit-in-Theorem in
    edit_obeyed (project_of c.args.self.now) (project_of made.new.self) (plain_command c.args.command) (spec.Edit.Theorem c.in-Theorem.unit (plain_theorem c.in-Theorem.theorem)) made.result
    c.requires.project (ap (λ (k : code.Command). edit_of (plain_command k)) c.in-Theorem.is) made.ensures.edited made.ensures.unsaved

pub returns-in-Proof-clause-answered : goal.returns-in-Proof-clause-answered
returns-in-Proof-clause-answered g c =
    let made = c.edit-in-Proof in
    edit_obeyed (project_of c.args.self.now) (project_of made.new.self) (plain_command c.args.command) (spec.Edit.Proof c.in-Proof.unit (plain_proof c.in-Proof.proof)) made.result
    c.requires.project (ap (λ (k : code.Command). edit_of (plain_command k)) c.in-Proof.is) made.ensures.edited made.ensures.unsaved

pub returns-in-Status-clause-answered : goal.returns-in-Status-clause-answered
returns-in-Status-clause-answered g c =
    status_obeyed (project_of c.args.self.now) (plain_command c.args.command) c.status.result c.requires.project (ap plain_command c.in-Status.is) c.status.ensures.states c.status.ensures.unsaved

pub returns-in-Save-clause-answered : goal.returns-in-Save-clause-answered
returns-in-Save-clause-answered g c =
    save_obeyed (project_of c.args.self.now) (plain_command c.args.command) c.saved.result (ap plain_command c.in-Save.is) c.saved.ensures
