-- The functions find the longest formula and the longest term, and what reads in two ways is one tree.
use Rattle.std.proofs.Common.{[], lit≤}
use Rattle.kv_pexpr.specs.declared.levels.Level.TheVariants as level
use Rattle.kv_pexpr.specs.Grammar.{ReadsTerm, ReadsForm, TermStops, Stops}
use Rattle.kv_pexpr.specs.Readings.{OneTree, OneReading}
use Rattle.kv_pexpr.specs.Parse.{term, read}
use Rattle.kv_pexpr.proofs.Binds.{loose, term_loose}
use Rattle.kv_pexpr.proofs.TermLaws.{sound_term, exact_term, longest_term}
use Rattle.kv_pexpr.proofs.Sound.{sound_read}
use Rattle.kv_pexpr.proofs.Exact.{form_high, lowered, exact_read}
use Rattle.kv_pexpr.proofs.Longest.{longest_form}
use Rattle.kv_pexpr.proofs.Reaches.{Reaches}
use Rattle.kv_pexpr.proofs.Fronts.{same_front, term_front, form_front}
use Rattle.kv_pexpr.proofs.Finds.{Finds}
use Rattle.kv_pexpr.proofs.Finds as of

pub form_ended : Stops []
form_ended us = (λ e. cc, λ e. cc, λ e. cc, λ e. cc, λ e. cc, λ e. cc)

pub form_finds : Finds ReadsForm Stops (read 300 level.Form 150 150)
form_finds = record {
  sound = λ ts r e. sound_read 300 level.Form 150 150 ts r e;
  front = λ ts us p r. same_front (form_front r.0) (λ ks ls is. (is, r.1));
  reaches = λ ts us p r. lowered (Reaches us) level.Form 150 ts p (longest_form r.0) (form_high r.0) 300 150 r.1 (lit≤ tt);
  exactly = λ ts us p r stops. exact_read r.0 (loose us stops) 300 150 r.1 (lit≤ tt);
  ended = form_ended;
}

pub term_finds : Finds ReadsTerm TermStops (term 150 150)
term_finds = record {
  sound = λ ts r e. sound_term 150 150 ts r e;
  front = λ ts us t r. same_front (term_front r.0) (λ ks ls is. (is, r.1));
  reaches = λ ts us t r. longest_term r.0 150 r.1;
  exactly = λ ts us t r stops. exact_term r.0 150 r.1 (term_loose us stops);
  ended = λ us e. cc;
}

pub one_tree : OneTree ReadsForm
one_tree = of.one_tree form_finds

pub one_reading : OneReading ReadsForm Stops
one_reading = of.one_reading form_finds

pub one_term_tree : OneTree ReadsTerm
one_term_tree = of.one_tree term_finds

pub one_term_reading : OneReading ReadsTerm TermStops
one_term_reading = of.one_reading term_finds
