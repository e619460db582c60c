-- Signatures as lists of symbols.
use Rattle.std.specs.Prelude.{◌≡◌, if◌then◌else◌, List, [], ◌∷◌, ◌++◌, Option, Some, None, Result, Ok, Err, OnErr, map}
use Rattle.std.specs.Str.{bytes_eq}
use Rattle.std.specs.List.{find}
use Rattle.std.specs.Option.{option_map}
use Rattle.kv_names.specs.Names.{Name}
use Rattle.kv_names.specs.declared.symbols.Profile.{Profile}
use Rattle.kv_names.specs.declared.symbols.Symbol.{Symbol}
use Rattle.kv_trees.specs.Same.{profile_eq}
use Rattle.kv_sig.specs.declared.sigs.SigError.{SigError}
use Rattle.kv_sig.specs.declared.sigs.SigError.TheVariants.{Clash, NoMemory}

-- the profile of the first symbol of that name
abbrev pub profile_of : List Symbol → Name → Option Profile
profile_of sig name = option_map (λ x. x.profile) (find (λ x. bytes_eq x.name name) sig)

abbrev pub names_of : List Symbol → List Name
names_of sig = map (λ x. x.name) sig

-- the signature with one more symbol, where `there` is the profile that its name has so far
abbrev pub added_where : Option Profile → List Symbol → Symbol → Result (List Symbol) SigError
added_where None sig x = Ok (sig ++ x ∷ [])
added_where (Some there) sig x = if profile_eq there x.profile then Ok sig else Err (Clash x.name)

-- a symbol that is there changes nothing, and a new one goes last
abbrev pub added : List Symbol → Symbol → Result (List Symbol) SigError
added sig x = added_where (profile_of sig x.name) sig x

-- symbols added one after the other, up to the first that clashes
abbrev pub merged_from : Result (List Symbol) SigError → List Symbol → Result (List Symbol) SigError
merged_from (Err e) xs = Err e
merged_from (Ok sig) [] = Ok sig
merged_from (Ok sig) (x ∷ xs) = merged_from (added sig x) xs

abbrev pub merged : List Symbol → List Symbol → Result (List Symbol) SigError
merged sig xs = merged_from (Ok sig) xs

-- the outcome of a call and the signature that it leaves, but for want of memory
abbrev pub Gives : List Symbol → Result (Unit {0}) SigError → Result (List Symbol) SigError → Type 0
Gives new (Ok _) outcome = outcome ≡ Ok new
Gives new (Err NoMemory) outcome = Unit {0}
Gives new (Err (Clash name)) outcome = outcome ≡ Err (Clash name)

-- the same, and after an error of any kind the signature is as it was
abbrev pub Becomes : List Symbol → List Symbol → Result (Unit {0}) SigError → Result (List Symbol) SigError → Type 0
Becomes old new result outcome = Gives new result outcome × OnErr result (new ≡ old)
