use Rattle.std.proofs.Common.{◌≡◌, ◌∙◌, ℕ, List, [], ◌∷◌, Option, map, string_bytes, subst, arith}
use Rattle.std.proofs.lemmas.Grind.{common_steps}
use Rattle.kv_io.specs.Outside.{Rose}
use Rattle.kv_top.specs.Calls.{Calls, IsQuiet, IsStatusOf, IsWhole}
use Rattle.kv_top.specs.Statuses.{IsAmong}
use Rattle.kv_top.specs.Words.{asked_mode}
use Rattle.kv_top.specs.declared.status.Status.TheVariants.{Done, NoMemory, StoreFault, Refused, TooLong, NoProject}
use Rattle.kv_top.specs.declared.words.Mode.TheVariants.{Run}
use Rattle.kv_top.proofs.Calls.{at_mode, calls-no_memory, completes, formed, has_backing, is_check, well_formed}
use Rattle.kv_top.proofs.running.run.Goals as goal

pub returns-in_default-clause-backed : goal.returns-in_default-clause-backed
returns-in_default-clause-backed g c = has_backing (g.S.Store.held c.args.store.now)

pub returns-in_default-2-clause-backed : goal.returns-in_default-2-clause-backed
returns-in_default-2-clause-backed g c = has_backing (g.S.Store.held c.args.store.now)

pub returns-in_default-mode_of-clause-backed : goal.returns-in_default-mode_of-clause-backed
returns-in_default-mode_of-clause-backed g c = has_backing (g.S.Store.held c.args.store.now)

pub returns-then-is_err-clause-backed : goal.returns-then-is_err-clause-backed
returns-then-is_err-clause-backed g c = has_backing (g.S.Store.held c.args.store.now)

pub returns-then-is_err-clause-says : goal.returns-then-is_err-clause-says
returns-then-is_err-clause-says g c =
    at_mode (λ mode. Calls mode (g.I.Source.left c.args.input.now) (g.I.Source.left c.args.input.now)
    (record { wrote = g.O.Sink.wrote c.args.output.now; held = g.S.Store.held c.args.store.now })
    (record { wrote = g.O.Sink.wrote c.args.output.now; held = g.S.Store.held c.choose.new.self }) NoMemory)
    (asked_mode (map string_bytes c.args.words.now)) c.in-Some.mode (grind (arith, common_steps))
    (calls-no_memory c.in-Some.mode (g.I.Source.left c.args.input.now) (g.O.Sink.wrote c.args.output.now) (g.S.Store.held c.args.store.now) (g.S.Store.held c.choose.new.self) c.choose.ensures.held)

pub returns-clause-backed : goal.returns-clause-backed
returns-clause-backed g c = has_backing (g.S.Store.held c.args.store.now)

pub returns-clause-among : goal.returns-clause-among
returns-clause-among g c =
    at_mode (λ mode. IsStatusOf mode c.call.result) (asked_mode (map string_bytes c.args.words.now)) c.in-Some.mode (grind (arith, common_steps)) c.call.ensures.among

pub returns-clause-says : goal.returns-clause-says
returns-clause-says g c =
    at_mode (λ mode. Calls mode (g.I.Source.left c.args.input.now) (g.I.Source.left c.call.new.input)
    (record { wrote = g.O.Sink.wrote c.args.output.now; held = g.S.Store.held c.args.store.now })
    (record { wrote = g.O.Sink.wrote c.call.new.output; held = g.S.Store.held c.call.new.store }) c.call.result)
    (asked_mode (map string_bytes c.args.words.now)) c.in-Some.mode (grind (arith, common_steps))
    (subst (λ (held : Option (Option (List ℕ))). Calls c.in-Some.mode (g.I.Source.left c.args.input.now) (g.I.Source.left c.call.new.input)
    (record { wrote = g.O.Sink.wrote c.args.output.now; held = held })
    (record { wrote = g.O.Sink.wrote c.call.new.output; held = g.S.Store.held c.call.new.store }) c.call.result)
    c.choose.ensures.held c.call.ensures.says)

pub returns-clause-complete : goal.returns-clause-complete
returns-clause-complete g c =
    at_mode (λ mode. IsWhole mode (g.I.Source.left c.args.input.now) (g.S.Store.held c.args.store.now)
    → (mode ≡ Run → IsQuiet (g.I.Source.faults c.args.input.now) (g.I.Source.faults c.call.new.input))
    → IsQuiet (g.S.Store.faults c.args.store.now) (g.S.Store.faults c.call.new.store)
    → IsQuiet (g.O.Sink.faults c.args.output.now) (g.O.Sink.faults c.call.new.output)
    → IsAmong c.call.result (Done ∷ NoMemory ∷ []))
    (asked_mode (map string_bytes c.args.words.now)) c.in-Some.mode (grind (arith, common_steps))
    (λ whole input store output. completes c.in-Some.mode (g.I.Source.left c.args.input.now) (g.I.Source.left c.call.new.input) (g.O.Sink.wrote c.args.output.now)
    (g.O.Sink.wrote c.call.new.output) (g.S.Store.held c.args.store.now) (g.S.Store.held c.call.new.store) c.call.result
    (record {
      formed = formed c.in-Some.mode c.call.result c.call.ensures.among;
      read = λ is e. input is (c.call.ensures.read_fault e);
      stored = λ e. store (subst (λ (n : ℕ). Rose n (g.S.Store.faults c.call.new.store)) c.choose.ensures.faults (c.call.ensures.store_fault e));
      written = λ e. output (c.call.ensures.write_fault e);
    })
    (subst (λ (held : Option (Option (List ℕ))). Calls c.in-Some.mode (g.I.Source.left c.args.input.now) (g.I.Source.left c.call.new.input)
    (record { wrote = g.O.Sink.wrote c.args.output.now; held = held })
    (record { wrote = g.O.Sink.wrote c.call.new.output; held = g.S.Store.held c.call.new.store }) c.call.result)
    c.choose.ensures.held c.call.ensures.says)
    whole)

pub returns-clause-store_fault : goal.returns-clause-store_fault
returns-clause-store_fault g c = λ e. subst (λ (n : ℕ). Rose n (g.S.Store.faults c.call.new.store)) c.choose.ensures.faults (c.call.ensures.store_fault e)

pub returns-clause-input : goal.returns-clause-input
returns-clause-input g c = λ other. c.call.ensures.input
    (is_check (asked_mode (map string_bytes c.args.words.now)) c.in-Some.mode (grind (arith, common_steps)) other)

pub returns-clause-held : goal.returns-clause-held
returns-clause-held g c = λ other. c.call.ensures.held
    (is_check (asked_mode (map string_bytes c.args.words.now)) c.in-Some.mode (grind (arith, common_steps)) other) ∙ c.choose.ensures.held

pub returns-clause-nothing : goal.returns-clause-nothing
returns-clause-nothing g c = λ other among. c.call.ensures.nothing
    (is_check (asked_mode (map string_bytes c.args.words.now)) c.in-Some.mode (grind (arith, common_steps)) other)
    (well_formed c.call.result (NoMemory ∷ StoreFault ∷ Refused ∷ TooLong ∷ NoProject ∷ []) (formed c.in-Some.mode c.call.result c.call.ensures.among) among)

pub returns-clause-nothing_read : goal.returns-clause-nothing_read
returns-clause-nothing_read g c = λ among. c.call.ensures.nothing_read
    (well_formed c.call.result (Refused ∷ NoProject ∷ []) (formed c.in-Some.mode c.call.result c.call.ensures.among) among)

pub returns-clause-nothing_written : goal.returns-clause-nothing_written
returns-clause-nothing_written g c = λ among. c.call.ensures.nothing_written
    (well_formed c.call.result (Refused ∷ NoProject ∷ []) (formed c.in-Some.mode c.call.result c.call.ensures.among) among)

pub returns-clause-nothing_saved : goal.returns-clause-nothing_saved
returns-clause-nothing_saved g c = λ among. c.call.ensures.nothing_saved
    (well_formed c.call.result (Refused ∷ NoProject ∷ []) (formed c.in-Some.mode c.call.result c.call.ensures.among) among) ∙ c.choose.ensures.held
