-- What a run writes and saves, by the commands of its input.
use Rattle.std.specs.Prelude.{◌≡◌, ℕ, true, List, [], ◌∷◌, ◌++◌, Option, Some, None, IfSome}
use Rattle.kv_io.specs.Framing.{Ending, cut_of, whole_commands}
use Rattle.kv_io.specs.Framing as framing
use Rattle.kv_io.specs.Outside.{Adds, AddsFront}
use Rattle.kv_syn.specs.Projects as P
use Rattle.kv_top.specs.Turns.{Turn, Follow, commands_of, answers_of, file_after}
use Rattle.kv_top.specs.declared.status.Status.{Status}
use Rattle.kv_top.specs.declared.status.Status.TheVariants.{Done, Usage, ReadFault, WriteFault, NoMemory, StoreFault, Refused, Cut, TooLong, NoProject}

-- all bytes that the output has taken, and the file that the store holds or that there is none, where they tell it
pub record Told : Type 0 where
  pub wrote : Option (List ℕ)
  pub held : Option (Option (List ℕ))

-- where the file was told, it is now as the turns left it
abbrev pub Keeps : Option (Option (List ℕ)) → List Turn → Option (Option (List ℕ)) → Type 0
Keeps old turns new = IfSome old (λ file. new ≡ Some (file_after file turns))

-- the answers of the turns were written, and then a front of one more
abbrev pub AddsUpTo : Option (List ℕ) → List Turn → Turn → Option (List ℕ) → Type 0
AddsUpTo old turns turn new = (mid : Option (List ℕ)) × Adds old (answers_of turns) mid × AddsFront mid turn.answer new

-- the turns were taken whole: all answers were written, and the project was saved at each one that saves
pub record Took (project : P.Project) (turns : List Turn) (old new : Told) : Type 0 where
  pub follow : Follow project turns
  pub wrote : Adds old.wrote (answers_of turns) new.wrote
  pub held : Keeps old.held turns new.held

-- all commands of the input were answered, and it ends so
pub record TookAll (project : P.Project) (input : List ℕ) (ending : Ending) (old new : Told) : Type 0 where
  pub turns : List Turn
  pub took : Took project turns old new
  pub all : cut_of input ≡ record { commands = commands_of turns; ending = ending }

-- some commands of the input were answered, the first ones
pub record TookFirst (project : P.Project) (input : List ℕ) (old new : Told) : Type 0 where
  pub turns : List Turn
  pub more : List (List ℕ)
  pub took : Took project turns old new
  pub first : (cut_of input).commands ≡ commands_of turns ++ more

-- the commands were answered whose end line, with its line feed, lies in the bytes that were taken from the input
pub record TookWhole (project : P.Project) (input rest : List ℕ) (old new : Told) : Type 0 where
  pub answered : TookFirst project input old new
  pub taken : List ℕ
  pub split : input ≡ taken ++ rest
  pub whole : commands_of answered.turns ≡ whole_commands taken

-- a command of the input was reached, behind the first ones
pub record Reached (project : P.Project) (input : List ℕ) : Type 0 where
  pub turns : List Turn
  pub turn : Turn
  pub more : List (List ℕ)
  pub follow : Follow project (turns ++ turn ∷ [])
  pub first : (cut_of input).commands ≡ commands_of turns ++ turn.command ∷ more

-- what each status says of an input that was answered from a project on, and of which this rest wasn't taken
abbrev pub Served : P.Project → (input rest : List ℕ) → (old new : Told) → Status → Type 0
Served project input rest old new Done = TookAll project input framing.End old new × (rest ≡ [])
Served project input rest old new Cut = TookAll project input framing.Cut old new
Served project input rest old new TooLong = TookAll project input framing.TooLong old new
Served project input rest old new ReadFault = TookWhole project input rest old new
Served project input rest old new NoMemory = TookFirst project input old new
Served project input rest old new StoreFault =
    (reached : Reached project input) × (reached.turn.saves ≡ true) × Adds old.wrote (answers_of reached.turns) new.wrote × (new.held ≡ None)
Served project input rest old new WriteFault =
    (reached : Reached project input) × AddsUpTo old.wrote reached.turns reached.turn new.wrote × Keeps old.held (reached.turns ++ reached.turn ∷ []) new.held
Served project input rest old new _ = ⊥

-- the statuses of an input that is answered
abbrev pub IsServed : Status → Type 0
IsServed Usage = ⊥
IsServed Refused = ⊥
IsServed NoProject = ⊥
IsServed status = Unit {0}

-- what a status says of any input, where it tells its bytes to come
pub record Serves (project : P.Project) (left left' : Option (List ℕ)) (old new : Told) (status : Status) : Type 0 where
  pub told : IfSome left (λ input. (rest : List ℕ) × (left' ≡ Some rest) × Served project input rest old new status)
