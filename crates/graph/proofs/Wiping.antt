-- What `clear_to` leaves: the words of the first n nodes, zeros past them, and n as the count.
use Prim.Native.Nat.{ℕ, zero, suc, ◌+◌, ◌-◌, ◌≤◌, ◌<◌}
use mathlib.Core.Path.{◌≡◌, refl, sym, ap, ◌∙◌}
use mathlib.Core.List.{List, ◌++◌}
use mathlib.Core.Logic.{⊎_elim}
use native.Mathlib.Omega.{arith}
use borrow.Rule.Slice.PartMut.{put_mid}
use lib.ListN.{length, get_or, set, take, replicate, length-set, length-append, length-replicate, get_or-replicate, get_or-append, get_or-eq_default}
use lib.Seq.{paste, length-paste, get_or-set_same, get_or-set_other, get_or-take, get_or-append-add, length-take-le, ext_get_or}
use Rattle.std.proofs.lemmas.Slice.{put_mid-paste}
use Rattle.word.proofs.Integer.{lt-or-ge}
use Rattle.graph.specs.Layout.{node_start, count_of}
use Rattle.graph.specs.Clear.{cleared, EmptyPast}
use Rattle.graph.proofs.Nodes.{paste_in, paste_below, paste_above}

-- k is h with n nodes, word by word
pub record Cleared (n : ℕ) (h k : List ℕ) : Type 0 where
  pub size : length k ≡ length h
  pub count : count_of k ≡ n
  pub kept : (i : ℕ) → 0 < i → i < node_start n → get_or k i 0 ≡ get_or h i 0
  pub empty : (i : ℕ) → node_start n ≤ i → get_or k i 0 ≡ 0

module _ (n : ℕ) (h : List ℕ) (fits : node_start n ≤ length h) where
  unfoldable front : List ℕ
  front = take (node_start n) h

  unfoldable tail : List ℕ
  tail = replicate (length h - node_start n) 0

  front_length : length front ≡ node_start n
  unfolding front
  front_length = length-take-le (node_start n) h fits

  tail-length : length tail ≡ length h - node_start n
  unfolding tail
  tail-length = length-replicate (length h - node_start n) 0

  all : length (front ++ tail) ≡ length h
  all = length-append front tail ∙ omega (arith, front_length, tail-length)

  past : (i : ℕ) → node_start n ≤ i → get_or (front ++ tail) i 0 ≡ 0
  unfolding tail
  past i l =
      ⊎_elim
      (λ p.
      let e : i ≡ length front + (i - node_start n) = omega (arith, front_length) in
      ap (λ (j : ℕ). get_or (front ++ tail) j 0) e ∙ get_or-append-add front tail (i - node_start n) 0
      ∙ get_or-replicate (length h - node_start n) (i - node_start n) 0 0 (omega arith))
      (λ p. get_or-eq_default (front ++ tail) 0 (omega (arith, all)))
      (lt-or-ge i (length h))

  pub cleared_facts : Cleared n h (cleared n h)
  unfolding cleared front tail
  cleared_facts = record {
    size = length-set (front ++ tail) 0 n ∙ all;
    count = get_or-set_same (front ++ tail) 0 n 0 (omega (arith, all));
    kept = λ i p q.
        get_or-set_other (front ++ tail) 0 i n 0 (λ e. omega arith) ∙ get_or-append front tail 0 i (omega (arith, front_length)) ∙ get_or-take (node_start n) h i 0 q;
    empty = λ i p. get_or-set_other (front ++ tail) 0 i n 0 (λ e. omega arith) ∙ past i p;
  }

-- there is one such region
pub cleared_one : (n : ℕ) (h k : List ℕ) → node_start n ≤ length h → Cleared n h k → k ≡ cleared n h
cleared_one n h k fits d = ext_get_or 0 k (cleared n h) (d.size ∙ sym f.size) each
  where
    f : Cleared n h (cleared n h)
    f = cleared_facts n h fits

    each : (i : ℕ) → i < length k → get_or k i 0 ≡ get_or (cleared n h) i 0
    each zero l = d.count ∙ sym f.count
    each (suc i) l =
        ⊎_elim
        (λ p. d.kept (suc i) (omega arith) p ∙ sym (f.kept (suc i) (omega arith) p))
        (λ p. d.empty (suc i) p ∙ sym (f.empty (suc i) p))
        (lt-or-ge (suc i) (node_start n))

-- ---- nodes n to c wiped, after the count was set: only zeros follow c

module _ (n c : ℕ) (h : List ℕ) (l : n ≤ c) (fits : node_start c ≤ length h) (zeros : EmptyPast c h) where
  abbrev size : ℕ
  size = node_start c - node_start n

  abbrev counted : List ℕ
  counted = set h 0 n

  abbrev none : List ℕ
  none = replicate size 0

  none_length : length none ≡ size
  none_length = length-replicate size 0

  pub wiped : (z : List ℕ) → z ≡ replicate (node_start c - node_start n) 0 → put_mid (node_start n) (node_start c - node_start n) (set h 0 n) z ≡ cleared n h
  wiped z e =
      put_mid-paste (node_start n) size counted z none size e refl (sym (length-replicate size 0))
      ∙ cleared_one n h (paste counted (node_start n) none size) (omega arith) (record {
        size = length-paste counted (node_start n) none size hd hs ∙ length-set h 0 n;
        count = paste_below counted (node_start n) none size hd hs 0 (omega arith) ∙ get_or-set_same h 0 n 0 (omega arith);
        kept = λ i p q. paste_below counted (node_start n) none size hd hs i q ∙ get_or-set_other h 0 i n 0 (λ e. omega arith);
        empty = λ i p. ⊎_elim (λ r. inner i p r) (λ r. paste_above counted (node_start n) none size hd hs i r ∙ get_or-set_other h 0 i n 0 (λ e. omega arith) ∙ zeros i (omega arith)) (lt-or-ge i (node_start n + size));
      })
    where
      hd : node_start n + size ≤ length counted
      hd = omega (arith, length-set h 0 n)

      hs : size ≤ length none
      hs = omega (arith, none_length)

      inner : (i : ℕ) → node_start n ≤ i → i < node_start n + size → get_or (paste counted (node_start n) none size) i 0 ≡ 0
      inner i p r =
          let e : i ≡ node_start n + (i - node_start n) = omega arith in
          ap (λ (j : ℕ). get_or (paste counted (node_start n) none size) j 0) e
          ∙ paste_in counted (node_start n) none size hd hs (i - node_start n) (omega arith)
          ∙ get_or-replicate size (i - node_start n) 0 0 (omega arith)
