use Rattle.std.proofs.Common.{arith}
use Rattle.kv_pexpr.specs.Gives.{kinds}
use Rattle.kv_pexpr.specs.declared.levels.Level.TheVariants as level
use Rattle.kv_pexpr.proofs.Turns.{read_none, read_at}
use Rattle.kv_pexpr.proofs.grammar.+read.Goals as goal

pub returns-then-fuel-eq0-clause-reads : goal.returns-then-fuel-eq0-clause-reads
returns-then-fuel-eq0-clause-reads t c = read_none _ _ _ _ _ (omega arith)

pub returns-in-Form-clause-reads : goal.returns-in-Form-clause-reads
returns-in-Form-clause-reads t c = rw (read_at c.args.fuel c.args.level level.Form c.args.brackets c.args.height (kinds c.args.tokens.now) (omega arith) c.in-Form.is) c.form.ensures.reads

pub returns-in-Imp-clause-reads : goal.returns-in-Imp-clause-reads
returns-in-Imp-clause-reads t c = rw (read_at c.args.fuel c.args.level level.Imp c.args.brackets c.args.height (kinds c.args.tokens.now) (omega arith) c.in-Imp.is) c.imp.ensures.reads

pub returns-in-Dis-clause-reads : goal.returns-in-Dis-clause-reads
returns-in-Dis-clause-reads t c = rw (read_at c.args.fuel c.args.level level.Dis c.args.brackets c.args.height (kinds c.args.tokens.now) (omega arith) c.in-Dis.is) c.dis.ensures.reads

pub returns-in-Con-clause-reads : goal.returns-in-Con-clause-reads
returns-in-Con-clause-reads t c = rw (read_at c.args.fuel c.args.level level.Con c.args.brackets c.args.height (kinds c.args.tokens.now) (omega arith) c.in-Con.is) c.con.ensures.reads

pub returns-in-Una-clause-reads : goal.returns-in-Una-clause-reads
returns-in-Una-clause-reads t c = rw (read_at c.args.fuel c.args.level level.Una c.args.brackets c.args.height (kinds c.args.tokens.now) (omega arith) c.in-Una.is) c.una.ensures.reads
