-- Laws of the lines and steps of a record: a line put in parts, a call and its line as a step, and a region that is no graph.
-- Assumes nothing.
use mathlib.Core.Bool.{true, false}
use mathlib.Core.List.{List}
use Rattle.std.specs.Prelude.{Option, None, Some}
use mathlib.Core.Path.{◌≡◌, refl, sym}
use Prim.Native.Nat.{ℕ, ◌^◌, ◌≤◌, ◌<◌}
use native.Mathlib.Omega.{arith}
use lib.ListN.{length, take-append-drop}
use Rattle.text.specs.Text.{decimal}
use Rattle.text.proofs.Decimal.{decimal_digits}
use Rattle.word.specs.Option.{is_some}
use Rattle.answer.specs.declared.Refusal.TheVariants as no
use Rattle.answer.specs.Refusal.{refusal_number}
use Rattle.graph.specs.WellFormed.{is_graph}
use Rattle.native.specs.Call.{Response, Called, called}
use Rattle.native.specs.Perform.{request_in_graph, request_call}
use Rattle.native.specs.Retain.{Outcome, Retention, retention, retain_in_graph, retain_call}
use Rattle.record.specs.Record.{Asked, request, retain, asked}
use Rattle.record.specs.Line.{BAD, REFUSED, numbered, answer_line, retain_line, Puts}
use Rattle.record.specs.Perform.{goes_on, ends, says, ends_bad, answered, kept_line, done_by, effect_call, effect_in_graph, record_call, record_in_graph, left, Writes}

-- ---- lines

-- a number of 64 bits has at most 20 digits
pub digits_64 : (n : ℕ) → n < 2 ^ 64 → length (decimal n) ≤ 20
digits_64 n l = decimal_digits 19 n (omega arith)

-- ---- steps

-- a call and its answer's line
pub answered_step : (out m : List ℕ) (c : Called) {a : Response} {g : List ℕ} {n : ℕ} {o : List ℕ} → called a g ≡ c
    → Puts (answer_line a) out o n → Writes out (answered c m) (left (goes_on n) g m o)
answered_step out m c e p = record { fits = rw (← e) p.fits; same = rw (← e, p.len, p.slice) }

-- a retain and its outcome's line
pub kept_step : (out : List ℕ) (r : Retention) {k : Outcome} {g m : List ℕ} {n : ℕ} {o : List ℕ} → retention k g m ≡ r
    → Puts (retain_line k) out o n → Writes out (kept_line r) (left (goes_on n) g m o)
kept_step out r e p = record { fits = rw (← e) p.fits; same = rw (← e, p.len, p.slice) }

-- a bad record's line
pub bad_step : (out g m : List ℕ) {n : ℕ} {o : List ℕ} → Puts BAD out o n → Writes out (ends_bad g m) (left (ends n) g m o)
bad_step out g m p = record { fits = p.fits; same = rw (p.len, p.slice) }

-- ---- question 1

-- on a graph it is answered yes
done_in_graph : (g m : List ℕ) (o : Option Asked) → is_graph g ≡ true
    → done_by (request_call g) (retain_call g) g m o ≡ done_by (request_in_graph g) (retain_in_graph g) g m o
unfolding done_by request_call retain_call
done_in_graph g m None e = refl
done_in_graph g m (Some (request q)) e = rw e
done_in_graph g m (Some (retain bs)) e = rw e

pub effect_in_graph_lem : (g m bs : List ℕ) → is_graph g ≡ true → effect_in_graph g m bs ≡ effect_call g m bs
unfolding effect_in_graph effect_call
effect_in_graph_lem g m bs e = sym (done_in_graph g m (asked bs) e)

pub record_in_graph_lem : (g m bs out : List ℕ) → is_graph g ≡ true → record_in_graph g m bs out ≡ record_call g m bs out
unfolding record_in_graph record_call
record_in_graph_lem g m bs out e = rw (effect_in_graph_lem g m bs e)

-- on another region whatever is asked for is refused
done_refused : (g m : List ℕ) (o : Option Asked) → is_graph g ≡ false → is_some o ≡ true
    → done_by (request_call g) (retain_call g) g m o ≡ says (numbered REFUSED (refusal_number no.Graph)) g m
unfolding done_by request_call retain_call
done_refused g m None e s = let z : ◌≡◌ {A = ℕ} 0 1 = cc in absurd (omega arith)
done_refused g m (Some (request q)) e s = rw e
done_refused g m (Some (retain bs)) e s = rw (e, take-append-drop)

pub refused_step : (g m bs out : List ℕ) {n : ℕ} {o : List ℕ} → is_graph g ≡ false → is_some (asked bs) ≡ true
    → Puts (numbered REFUSED (refusal_number no.Graph)) out o n → Writes out (effect_call g m bs) (left (goes_on n) g m o)
unfolding effect_call
refused_step g m bs out e s p =
    let is = done_refused g m (asked bs) e s in
    record { fits = rw is p.fits; same = rw (is, p.len, p.slice) }

-- a bad record comes before question 1
done_bad : (g m : List ℕ) (o : Option Asked) → is_some o ≡ false → done_by (request_call g) (retain_call g) g m o ≡ ends_bad g m
unfolding done_by
done_bad g m None s = refl
done_bad g m (Some a) s = let z : ◌≡◌ {A = ℕ} 0 1 = cc in absurd (omega arith)

pub bad_call_step : (g m bs out : List ℕ) {n : ℕ} {o : List ℕ} → is_some (asked bs) ≡ false
    → Puts BAD out o n → Writes out (effect_call g m bs) (left (ends n) g m o)
unfolding effect_call
bad_call_step g m bs out s p =
    let is = done_bad g m (asked bs) s in
    record { fits = rw is p.fits; same = rw (is, p.len, p.slice) }
