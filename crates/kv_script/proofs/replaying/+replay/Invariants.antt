use Rattle.std.proofs.Common.{◌≡◌, ◌-◌, ◌^◌, min, true, length, drop}
use Rattle.kv_script.proofs.Sofar.{Sofar}
use Rattle.kv_script.proofs.replaying.+replay.Given as goal
use Rattle.kv_sig.specs.Views.{view_of}
use Rattle.kv_syn.specs.Rows.{has_fault_rows}

abbrev pub invariant-replay_below-loop-i : goal.invariant-replay_below-loop-i
invariant-replay_below-loop-i g l = record {
  rows : has_fault_rows l.tally.broken ≡ true;
  path_is : l.path ≡ l.fn.path;
  left_is : drop l.i l.premises ≡ drop l.i l.fn.premises;
  same : length l.premises ≡ length l.fn.premises;
  place_is : l.place ≡ min l.i (2 ^ 32 - 1);
  sofar : Sofar (view_of l.env.flat.now) l.fn.path l.fn.premises l.children l.i l.fn.tally l.tally l.fn.steps l.steps;
}
