use Rattle.std.proofs.Common.{◌≡◌, OnErr, Ok, Err, Result, refl}
use Rattle.kv_session.proofs.Answered.{unread_answered}
use Rattle.kv_session.specs.Sessions.{project_of}
use Rattle.kv_session.proofs.session.Session.step.Goals as goal

stays : {X E : Type 0} {Y : Type 0} (y : Y) (result : Result X E) → OnErr result (y ≡ y)
stays y (Ok x) = tt
stays y (Err e) = refl

pub returns-in-Err : goal.returns-in-Err
returns-in-Err g c = record {
  answered = unread_answered (project_of c.args.self.now) c.args.text.now c.in-Err.fault c.unread.result c.silent.result c.in-Err.ensures.faults
      c.unread.ensures c.silent.ensures.bytes c.silent.ensures.unsaved;
  spelt = c.requires;
  stays = stays (project_of c.args.self.now) c.silent.result;
}
