-- What a step says of the slices lent for it: its line fits the slice, and the rest of the slice stays. Assumes nothing.
use mathlib.Core.Path.{◌≡◌, refl, sym, ap, ◌∙◌, subst}
use mathlib.Core.Bool.{Bool, true, false, cond}
use mathlib.Core.List.{List, ◌++◌, append_assoc}
use Prim.Native.Nat.{ℕ, ◌+◌, ◌≤◌, ◌<◌}
use native.Mathlib.Omega.{arith}
use borrow.Author.Tests.{leb-false}
use lib.Dec.{leb}
use lib.ListN.{length, take, drop, length-append, length-drop, take-append-drop}
use lib.Seq.{take-append_seam, drop-append_seam, drop-append-le}
use Rattle.text.specs.Text.{placed}
use Rattle.record.specs.Line.{LINE}
use Rattle.record.specs.Perform.{Progress, goes_on, ends, no_room, Effect, Left, left, line_of, written, Writes}

-- a text at the start of a slice fits it if the slice keeps its length
pub placed-fits : (out text after : List ℕ) → after ≡ placed out text → length after ≡ length out → length text ≤ length out
unfolding placed
placed-fits out text after e s =
    let l : length after ≡ length text + length (drop (length text) out) = ap length e ∙ length-append text (drop (length text) out) in
    omega (arith, l, s, length-drop (length text) out)

pub placed-take : (out text after : List ℕ) → after ≡ placed out text → take (length text) after ≡ text
unfolding placed
placed-take out text after e = rw e (take-append_seam text (drop (length text) out))

pub placed-drop : (out text after : List ℕ) → after ≡ placed out text → drop (length text) after ≡ drop (length text) out
unfolding placed
placed-drop out text after e = rw e (drop-append_seam text (drop (length text) out))

-- put at the start of the first k bytes, it is put at the start of the slice
pub placed-front : (k : ℕ) (out text after : List ℕ) → length text ≤ length (take k out) → after ≡ placed (take k out) text → after ++ drop k out ≡ placed out text
unfolding placed
placed-front k out text after fits e =
    rw e (append_assoc text (drop (length text) (take k out)) (drop k out)
    ∙ ap (λ (l : List ℕ). text ++ l) (sym (drop-append-le (length text) (take k out) (drop k out) fits)
    ∙ ap (drop (length text)) (take-append-drop k out)))

pub written-front : (k : ℕ) (out first after g m : List ℕ) (p : Progress) (e : Effect) → first ≡ take k out → Writes first e (left p g m after)
    → left p g m (after ++ drop k out) ≡ written out e
written-front k out first after g m p e is w =
    let fits : length e.text ≤ length (take k out) = rw is at w.fits in
    let same : left p g m after ≡ written (take k out) e = rw is at w.same in
    let line : after ≡ placed (take k out) e.text = ap (λ (l : Left). l.line) same in
    ap (λ (l : Left). left l.progress l.graph l.mapping (after ++ drop k out)) same
    ∙ ap (left (line_of e.is_last (length e.text)) e.graph e.mapping) (placed-front k out e.text after fits line)

-- ---- a step by its progress

-- the answer of an effect that was written, or nothing without room
abbrev Outcome : List ℕ → List ℕ → List ℕ → Effect → Left
Outcome g m out e = cond (leb LINE (length out)) (written out e) (left no_room g m out)

-- a line of n bytes, the last or not: the effect, its text at the start of the slice
pub record Line (out after h w : List ℕ) (n : ℕ) (is_last : Bool) (e : Effect) : Type 0 where
  pub effect : e ≡ record { text = take n after; is_last = is_last; graph = h; mapping = w }
  pub within : n ≤ length out
  pub rest : drop n after ≡ drop n out

line_by : (out after h w : List ℕ) (p : Progress) (e : Effect) (n : ℕ) → length after ≡ length out → left p h w after ≡ written out e → n ≡ length e.text
    → Line out after h w n e.is_last e
line_by out after h w p e n s q z =
    let a : after ≡ placed out e.text = ap (λ (l : Left). l.line) q in
    let g : h ≡ e.graph = ap (λ (l : Left). l.graph) q in
    let m : w ≡ e.mapping = ap (λ (l : Left). l.mapping) q in
    record {
      effect = rw (z, placed-take out e.text after a, g, m);
      within = rw z (placed-fits out e.text after a s);
      rest = rw z (placed-drop out e.text after a);
    }

module _ (g m out h w after : List ℕ) (e : Effect) (same : length after ≡ length out) where
  pub went_on : (n : ℕ) → left (goes_on n) h w after ≡ Outcome g m out e → Line out after h w n false e
  went_on n q = by (leb LINE (length out)) e.is_last refl q
    where
      by : (b t : Bool) → e.is_last ≡ t → left (goes_on n) h w after ≡ cond b (written out e) (left no_room g m out) → Line out after h w n false e
      by true true z q =
          let p : goes_on n ≡ ends (length e.text) = rw z at (ap (λ (l : Left). l.progress) q) in
          let o : ◌≡◌ {A = ℕ} 0 1 = cc in absurd (omega arith)
      by true false z q =
          let p : goes_on n ≡ goes_on (length e.text) = rw z at (ap (λ (l : Left). l.progress) q) in
          let k : n ≡ length e.text = cc in
          subst (λ (t : Bool). Line out after h w n t e) z (line_by out after h w (goes_on n) e n same q k)
      by false t z q =
          let p : goes_on n ≡ no_room = ap (λ (l : Left). l.progress) q in
          let o : ◌≡◌ {A = ℕ} 0 1 = cc in absurd (omega arith)

  pub ended : (n : ℕ) → left (ends n) h w after ≡ Outcome g m out e → Line out after h w n true e
  ended n q = by (leb LINE (length out)) e.is_last refl q
    where
      by : (b t : Bool) → e.is_last ≡ t → left (ends n) h w after ≡ cond b (written out e) (left no_room g m out) → Line out after h w n true e
      by true false z q =
          let p : ends n ≡ goes_on (length e.text) = rw z at (ap (λ (l : Left). l.progress) q) in
          let o : ◌≡◌ {A = ℕ} 0 1 = cc in absurd (omega arith)
      by true true z q =
          let p : ends n ≡ ends (length e.text) = rw z at (ap (λ (l : Left). l.progress) q) in
          let k : n ≡ length e.text = cc in
          subst (λ (t : Bool). Line out after h w n t e) z (line_by out after h w (ends n) e n same q k)
      by false t z q =
          let p : ends n ≡ no_room = ap (λ (l : Left). l.progress) q in
          let o : ◌≡◌ {A = ℕ} 0 1 = cc in absurd (omega arith)

  -- without room nothing is done
  pub record Full : Type 0 where
    pub short : length out < LINE
    pub graph : h ≡ g
    pub mapping : w ≡ m
    pub line : after ≡ out

  pub had_no_room : left no_room h w after ≡ Outcome g m out e → Full
  had_no_room q = by (leb LINE (length out)) e.is_last refl refl q
    where
      by : (b t : Bool) → leb LINE (length out) ≡ b → e.is_last ≡ t → left no_room h w after ≡ cond b (written out e) (left no_room g m out) → Full
      by true true y z q =
          let p : no_room ≡ ends (length e.text) = rw z at (ap (λ (l : Left). l.progress) q) in
          let o : ◌≡◌ {A = ℕ} 0 1 = cc in absurd (omega arith)
      by true false y z q =
          let p : no_room ≡ goes_on (length e.text) = rw z at (ap (λ (l : Left). l.progress) q) in
          let o : ◌≡◌ {A = ℕ} 0 1 = cc in absurd (omega arith)
      by false t y z q = record {
        short = leb-false LINE (length out) y;
        graph = ap (λ (l : Left). l.graph) q;
        mapping = ap (λ (l : Left). l.mapping) q;
        line = ap (λ (l : Left). l.line) q;
      }
