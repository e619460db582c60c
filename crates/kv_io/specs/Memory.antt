-- What the objects in memory tell.
use Rattle.std.specs.Prelude.{ℕ, ◌+◌, ◌-◌, ◌^◌, ◌&&◌, Bool, List, length, Option, nat_eq, nat_lt, nat_le, if◌then◌else◌}
use Rattle.std.specs.List.{list_any}

-- the calls that are to fail, counted from 0, how many calls were made, and how many of them failed
pub record CallCounts : Type 0 where
  pub fails : List ℕ
  pub made : ℕ
  pub faults : ℕ

-- no call was made yet
abbrev pub no_calls : List ℕ → CallCounts
no_calls fails = record { fails = fails; made = 0; faults = 0 }

-- whether the next call is to fail
abbrev pub is_due : CallCounts → Bool
is_due calls = list_any (λ call. nat_eq call calls.made) calls.fails

-- one more, as far as 64 bits count
abbrev pub one_more : ℕ → ℕ
one_more count = if nat_lt count (2 ^ 64 - 1) then count + 1 else count

-- the counts after a call that failed, or didn't
abbrev pub after_call : CallCounts → Bool → CallCounts
after_call calls failed =
    let faults = if failed then one_more calls.faults else calls.faults in
    record { fails = calls.fails; made = one_more calls.made; faults = faults }

-- the bytes still to come, and the most that a call gives
pub record SourceState : Type 0 where
  pub left : List ℕ
  pub most : ℕ
  pub calls : CallCounts

-- the bytes taken, the most that a call takes, and how many fit in all
pub record SinkState : Type 0 where
  pub wrote : List ℕ
  pub most : ℕ
  pub capacity : ℕ
  pub calls : CallCounts

-- the name, no file or its bytes where that is told, and how many bytes fit
pub record StoreState : Type 0 where
  pub chosen : Option (List ℕ)
  pub held : Option (Option (List ℕ))
  pub capacity : ℕ
  pub calls : CallCounts

-- whether a sink has no room for a piece that isn't empty
abbrev pub is_full : SinkState → List ℕ → Bool
is_full sink piece = nat_lt 0 (length piece) && nat_le sink.capacity (length sink.wrote)
