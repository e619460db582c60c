-- What the parts of a call say, together.
use Rattle.std.proofs.Common.{◌≡◌, ◌≢◌, ℕ, List, [], ◌∷◌, Option, Some, None, Ok, Err, IfSome, refl, sym, subst, ap, inl, inr, arith}
use Rattle.kv_fresh.proofs.Backed.{backing}
use Rattle.kv_io.specs.Framing.{Cutting, Ending, cut_of}
use Rattle.kv_io.specs.Framing as framing
use Rattle.kv_syn.specs.ProjectBridge.{plain_project}
use Rattle.kv_syn.specs.Projects as P
use Rattle.kv_syn.specs.declared.projects.Project.{Project}
use Rattle.kv_top.specs.Calls.{IsIdle, RunSays, Calls, IsStatusOf, IsWhole, HasBacking}
use Rattle.kv_top.specs.Files.{IsLong, IsUnloaded, IsUnreadable, LoadSays, Says, Shows, Spells}
use Rattle.kv_top.specs.Runs.{Told, TookAll, IsServed, Served, Serves}
use Rattle.kv_top.specs.Statuses.{IsAmong}
use Rattle.kv_top.specs.Turns.{project_after}
use Rattle.kv_top.specs.declared.status.Status.{Status}
use Rattle.kv_top.specs.declared.status.Status.TheVariants.{Done, Usage, ReadFault, WriteFault, NoMemory, StoreFault, Refused, Cut, TooLong, NoProject}
use Rattle.kv_top.specs.declared.words.Mode.{Mode}
use Rattle.kv_top.specs.declared.words.Mode.TheVariants.{Check, Run}

-- ---- no project was loaded

says_unloaded : (file wrote : Option (List ℕ)) (status : Status) → LoadSays file (Err status) → Says file wrote wrote status
says_unloaded file wrote NoProject h = (h, refl)
says_unloaded file wrote TooLong h = (h, refl)
says_unloaded file wrote Refused h = (h, refl)
says_unloaded file wrote StoreFault h = refl
says_unloaded file wrote NoMemory h = refl
says_unloaded file wrote Done h = absurd h
says_unloaded file wrote Usage h = absurd h
says_unloaded file wrote ReadFault h = absurd h
says_unloaded file wrote WriteFault h = absurd h
says_unloaded file wrote Cut h = absurd h

run_unloaded : (file : Option (List ℕ)) (input : List ℕ) (old new : Told) (status : Status) → IsIdle input input old new → LoadSays file (Err status)
    → RunSays file input input old new status
run_unloaded file input old new NoProject idle h = (h, idle)
run_unloaded file input old new TooLong idle h = inl (h, idle)
run_unloaded file input old new Refused idle h = (h, idle)
run_unloaded file input old new StoreFault idle h = inl idle
run_unloaded file input old new NoMemory idle h = inl idle
run_unloaded file input old new Done idle h = absurd h
run_unloaded file input old new Usage idle h = absurd h
run_unloaded file input old new ReadFault idle h = absurd h
run_unloaded file input old new WriteFault idle h = absurd h
run_unloaded file input old new Cut idle h = absurd h

pub calls-unloaded : (mode : Mode) (left wrote : Option (List ℕ)) (held held' : Option (Option (List ℕ))) (status : Status) → held' ≡ held
    → IfSome held (λ file. LoadSays file (Err status))
    → Calls mode left left (record { wrote = wrote; held = held }) (record { wrote = wrote; held = held' }) status
calls-unloaded Check left wrote None held' status same says = tt
calls-unloaded Check left wrote (Some file) held' status same says = says_unloaded file wrote status says
calls-unloaded Run left wrote None held' status same says = record { told = tt }
calls-unloaded Run None wrote (Some file) held' status same says = record { told = tt }
calls-unloaded Run (Some input) wrote (Some file) held' status same says = record {
  told = (
    input,
    refl,
    run_unloaded file input (record { wrote = wrote; held = Some file }) (record { wrote = wrote; held = held' }) status (record { unread = refl; wrote = refl; held = same }) says,
  );
}

-- want of memory may come before the load
pub calls-no_memory : (mode : Mode) (left wrote : Option (List ℕ)) (held held' : Option (Option (List ℕ))) → held' ≡ held
    → Calls mode left left (record { wrote = wrote; held = held }) (record { wrote = wrote; held = held' }) NoMemory
calls-no_memory mode left wrote None held' same = calls-unloaded mode left wrote None held' NoMemory same tt
calls-no_memory mode left wrote (Some file) held' same = calls-unloaded mode left wrote (Some file) held' NoMemory same tt

-- ---- a project was loaded

says_shown : (file wrote wrote' : Option (List ℕ)) (project : P.Project) (status : Status) → Spells file project → Shows project wrote wrote' status → Says file wrote wrote' status
says_shown file wrote wrote' project Done spells h = (project, spells, h)
says_shown file wrote wrote' project WriteFault spells h = (project, spells, h)
says_shown file wrote wrote' project NoMemory spells h = h
says_shown file wrote wrote' project Usage spells h = absurd h
says_shown file wrote wrote' project ReadFault spells h = absurd h
says_shown file wrote wrote' project StoreFault spells h = absurd h
says_shown file wrote wrote' project Refused spells h = absurd h
says_shown file wrote wrote' project Cut spells h = absurd h
says_shown file wrote wrote' project TooLong spells h = absurd h
says_shown file wrote wrote' project NoProject spells h = absurd h

pub calls-shown : (left left' wrote wrote' : Option (List ℕ)) (held held' : Option (Option (List ℕ))) (project : Project) (status : Status)
    → IfSome held (λ file. LoadSays file (Ok project)) → Shows (plain_project project) wrote wrote' status
    → Calls Check left left' (record { wrote = wrote; held = held }) (record { wrote = wrote'; held = held' }) status
calls-shown left left' wrote wrote' None held' project status says shows = tt
calls-shown left left' wrote wrote' (Some file) held' project status says shows = says_shown file wrote wrote' (plain_project project) status says shows

run_served : (file : Option (List ℕ)) (project : P.Project) (input rest : List ℕ) (old new : Told) (status : Status) → Spells file project
    → Served project input rest old new status → RunSays file input rest old new status
run_served file project input rest old new Done spells h = (project, spells, h)
run_served file project input rest old new ReadFault spells h = (project, spells, h)
run_served file project input rest old new WriteFault spells h = (project, spells, h)
run_served file project input rest old new Cut spells h = (project, spells, h)
run_served file project input rest old new NoMemory spells h = inr (project, spells, h)
run_served file project input rest old new StoreFault spells h = inr (project, spells, h)
run_served file project input rest old new TooLong spells h = inr (project, spells, h)
run_served file project input rest old new Usage spells h = absurd h
run_served file project input rest old new Refused spells h = absurd h
run_served file project input rest old new NoProject spells h = absurd h

pub calls-served : (project : Project) (left left' wrote wrote' : Option (List ℕ)) (held mid held' : Option (Option (List ℕ))) (status : Status) → mid ≡ held
    → IfSome held (λ file. LoadSays file (Ok project))
    → Serves (plain_project project) left left' (record { wrote = wrote; held = mid }) (record { wrote = wrote'; held = held' }) status
    → Calls Run left left' (record { wrote = wrote; held = held }) (record { wrote = wrote'; held = held' }) status
calls-served project left left' wrote wrote' None mid held' status same says serves = record { told = tt }
calls-served project None left' wrote wrote' (Some file) mid held' status same says serves = record { told = tt }
calls-served project (Some input) left' wrote wrote' (Some file) mid held' status same says serves =
    let told = (subst (λ (h : Option (Option (List ℕ))). Serves (plain_project project) (Some input) left' (record { wrote = wrote; held = h })
    (record { wrote = wrote'; held = held' }) status) same serves).told in
    record { told = (told.0, told.1, run_served file (plain_project project) input told.0 (record { wrote = wrote; held = Some file }) (record { wrote = wrote'; held = held' }) status says told.2) }

-- ---- statuses

-- no status of a mode is `Usage`
pub formed : (mode : Mode) (status : Status) → IsStatusOf mode status → status ≢ Usage
formed Check status is e = subst (λ (s : Status). IsStatusOf Check s) e is
formed Run status is e = subst (λ (s : Status). IsStatusOf Run s) e is

pub unloaded-status : (mode : Mode) (status : Status) → IsUnloaded status → IsStatusOf mode status
unloaded-status Check Usage h = h
unloaded-status Check ReadFault h = h
unloaded-status Check Cut h = h
unloaded-status Check status h = tt
unloaded-status Run Usage h = h
unloaded-status Run status h = tt

pub shown-status : (project : P.Project) (wrote wrote' : Option (List ℕ)) (status : Status) → Shows project wrote wrote' status → IsStatusOf Check status
shown-status project wrote wrote' Usage h = h
shown-status project wrote wrote' ReadFault h = h
shown-status project wrote wrote' Cut h = h
shown-status project wrote wrote' status h = tt

pub served-status : (status : Status) → IsServed status → IsStatusOf Run status
served-status Usage h = h
served-status status h = tt

-- where no project was loaded, nothing was read or written
pub unloaded-read : (status : Status) → IsUnloaded status → status ≢ ReadFault
unloaded-read status h e = subst IsUnloaded e h

pub unloaded-write : (status : Status) → IsUnloaded status → status ≢ WriteFault
unloaded-write status h e = subst IsUnloaded e h

-- serving doesn't end as where no project was loaded
pub served-loaded : (status : Status) → IsServed status → IsAmong status (Refused ∷ NoProject ∷ []) → ⊥
served-loaded status h (inl e) = subst IsServed e h
served-loaded status h (inr (inl e)) = subst IsServed e h
served-loaded status h (inr (inr never)) = never

pub shown-loaded : (project : P.Project) (wrote wrote' : Option (List ℕ)) (status : Status) → Shows project wrote wrote' status
    → IsAmong status (Refused ∷ NoProject ∷ []) → ⊥
shown-loaded project wrote wrote' status h (inl e) = subst (λ (s : Status). Shows project wrote wrote' s) e h
shown-loaded project wrote wrote' status h (inr (inl e)) = subst (λ (s : Status). Shows project wrote wrote' s) e h
shown-loaded project wrote wrote' status h (inr (inr never)) = never

-- where the answer to `status` wasn't begun, memory ran out
pub shown-nothing : (project : P.Project) (wrote wrote' : Option (List ℕ)) (status : Status) → Shows project wrote wrote' status
    → IsAmong status (NoMemory ∷ StoreFault ∷ Refused ∷ TooLong ∷ NoProject ∷ []) → status ≡ NoMemory
shown-nothing project wrote wrote' status h (inl e) = e
shown-nothing project wrote wrote' status h (inr (inl e)) = absurd (subst (λ (s : Status). Shows project wrote wrote' s) e h)
shown-nothing project wrote wrote' status h (inr (inr (inl e))) = absurd (subst (λ (s : Status). Shows project wrote wrote' s) e h)
shown-nothing project wrote wrote' status h (inr (inr (inr (inl e)))) = absurd (subst (λ (s : Status). Shows project wrote wrote' s) e h)
shown-nothing project wrote wrote' status h (inr (inr (inr (inr (inl e))))) = absurd (subst (λ (s : Status). Shows project wrote wrote' s) e h)
shown-nothing project wrote wrote' status h (inr (inr (inr (inr (inr never))))) = absurd never

-- the words were well formed, so it is another of these
pub well_formed : (status : Status) (others : List Status) → status ≢ Usage → IsAmong status (Usage ∷ others) → IsAmong status others
well_formed status others other (inl e) = absurd (other e)
well_formed status others other (inr among) = among

-- ---- completeness

not_refused : (file : Option (List ℕ)) (project : P.Project) → Spells file project → IsUnreadable file → ⊥
not_refused None project s h = s
not_refused (Some bytes) project s h = h.1 project s.1

not_long : (file : Option (List ℕ)) (project : P.Project) → Spells file project → IsLong file → ⊥
not_long None project s h = s
not_long (Some bytes) project s h = omega (arith, s.0, h)

not_missing : (file : Option (List ℕ)) (project : P.Project) → Spells file project → file ≡ None → ⊥
not_missing None project s h = s
not_missing (Some bytes) project s h = let e : Some bytes ≡ None = h in cc

-- no fault came, and the words were well formed
pub record IsCalm (mode : Mode) (status : Status) : Type 0 where
  pub formed : status ≢ Usage
  pub read : mode ≡ Run → status ≢ ReadFault
  pub stored : status ≢ StoreFault
  pub written : status ≢ WriteFault

check_completes : (file wrote wrote' : Option (List ℕ)) (project : P.Project) (status : Status) → Spells file project → IsCalm Check status
    → Says file wrote wrote' status → IsAmong status (Done ∷ NoMemory ∷ [])
check_completes file wrote wrote' project Done spells calm h = inl refl
check_completes file wrote wrote' project NoMemory spells calm h = inr (inl refl)
check_completes file wrote wrote' project Usage spells calm h = absurd (calm.formed refl)
check_completes file wrote wrote' project StoreFault spells calm h = absurd (calm.stored refl)
check_completes file wrote wrote' project WriteFault spells calm h = absurd (calm.written refl)
check_completes file wrote wrote' project Refused spells calm h = absurd (not_refused file project spells h.0)
check_completes file wrote wrote' project TooLong spells calm h = absurd (not_long file project spells h.0)
check_completes file wrote wrote' project NoProject spells calm h = absurd (not_missing file project spells h.0)
check_completes file wrote wrote' project ReadFault spells calm h = absurd h
check_completes file wrote wrote' project Cut spells calm h = absurd h

not_cut : (project : P.Project) (input : List ℕ) (old new : Told) → (cut_of input).ending ≡ framing.End → TookAll project input framing.Cut old new → ⊥
not_cut project input old new end took = let e : (cut_of input).ending ≡ framing.Cut = ap (λ (c : Cutting). c.ending) took.all in cc

not_too_long : (project : P.Project) (input : List ℕ) (old new : Told) → (cut_of input).ending ≡ framing.End → TookAll project input framing.TooLong old new → ⊥
not_too_long project input old new end took = let e : (cut_of input).ending ≡ framing.TooLong = ap (λ (c : Cutting). c.ending) took.all in cc

run_completes : (file : Option (List ℕ)) (project : P.Project) (input rest : List ℕ) (old new : Told) (status : Status) → Spells file project
    → (cut_of input).ending ≡ framing.End → IsCalm Run status → RunSays file input rest old new status → IsAmong status (Done ∷ NoMemory ∷ [])
run_completes file project input rest old new Done spells end calm h = inl refl
run_completes file project input rest old new NoMemory spells end calm h = inr (inl refl)
run_completes file project input rest old new Usage spells end calm h = absurd h
run_completes file project input rest old new ReadFault spells end calm h = absurd (calm.read refl refl)
run_completes file project input rest old new StoreFault spells end calm h = absurd (calm.stored refl)
run_completes file project input rest old new WriteFault spells end calm h = absurd (calm.written refl)
run_completes file project input rest old new Refused spells end calm h = absurd (not_refused file project spells h.0)
run_completes file project input rest old new NoProject spells end calm h = absurd (not_missing file project spells h.0)
run_completes file project input rest old new Cut spells end calm h = absurd (not_cut h.0 input old new end h.2)
run_completes file project input rest old new TooLong spells end calm (inl h) = absurd (not_long file project spells h.0)
run_completes file project input rest old new TooLong spells end calm (inr h) = absurd (not_too_long h.0 input old new end h.2)

pub completes : (mode : Mode) (left left' wrote wrote' : Option (List ℕ)) (held held' : Option (Option (List ℕ))) (status : Status) → IsCalm mode status
    → Calls mode left left' (record { wrote = wrote; held = held }) (record { wrote = wrote'; held = held' }) status → IsWhole mode left held
    → IsAmong status (Done ∷ NoMemory ∷ [])
completes Check left left' wrote wrote' None held' status calm calls whole = absurd whole
completes Check left left' wrote wrote' (Some file) held' status calm calls whole = check_completes file wrote wrote' whole.0 status whole.1 calm calls
completes Run left left' wrote wrote' None held' status calm calls whole = absurd whole.0
completes Run None left' wrote wrote' (Some file) held' status calm calls whole = absurd whole.1
completes Run (Some input) left' wrote wrote' (Some file) held' status calm calls whole =
    let spelt = whole.0 in
    run_completes file spelt.0 input calls.told.0 (record { wrote = wrote; held = Some file }) (record { wrote = wrote'; held = held' }) status spelt.1 whole.1 calm calls.told.2

-- ---- backing

pub has_backing : (held : Option (Option (List ℕ))) → HasBacking held
has_backing None = tt
has_backing (Some file) = λ project spells turns follow. backing (project_after project turns)

-- ---- the mode that was asked for

pub at_mode : (Is : Mode → Type 0) (asked : Option Mode) (mode : Mode) → asked ≡ Some mode → Is mode → IfSome asked Is
at_mode Is asked mode e is = subst (λ (o : Option Mode). IfSome o Is) (sym e) is

pub is_check : (asked : Option Mode) (mode : Mode) → asked ≡ Some mode → asked ≢ Some Run → mode ≡ Check
is_check asked Check e other = refl
is_check asked Run e other = absurd (other e)
