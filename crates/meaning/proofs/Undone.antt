-- What follows for the base of a sum with a constant, where the sum lies in a range. Assumes nothing.
use mathlib.Core.Path.{◌≡◌, refl, sym, ap, ◌∙◌, subst}
use mathlib.Core.Bool.{true}
use mathlib.Core.List.{List}
use mathlib.Core.Logic.{⊎_elim}
use Rattle.std.specs.Prelude.{Option, Some}
use Prim.Native.Nat.{ℕ, ◌+◌, ◌-◌, ◌%◌, ◌^◌, ◌≤◌, ◌<◌}
use native.Mathlib.Nat.{mod-lt}
use native.Mathlib.Omega.{arith}
use borrow.Author.Tests.{ltb-true, leb-true, eqb-true, eq-eqb}
use lib.Dec.{ltb, leb}
use lib.IntN.{ℤ, pos, negsuc, ◌+ℤ◌, ◌-ℤ◌, +ℤ-neg_ℤ_cancel, -ℤ-+ℤ_cancel}
use lib.Pow.{pow_pos, lt_of_le_ones}
use lib.Signed.{le_z, ◌≤ℤ◌}
use Rattle.word.specs.Value.{signed, residue}
use Rattle.word.proofs.Integer.{residue-pos}
use Rattle.range.specs.Interval.{Interval, ◌∈◌, point, nonnegative, between, add_interval, sub_interval}
use Rattle.range.specs.declared.ScalarType.{ScalarType}
use Rattle.range.specs.declared.ScalarType.TheVariants as ty
use Rattle.range.proofs.Order.{up, down, orders}
use Rattle.range.proofs.Sound.{point_in, tests, either, at_most_lem, add_in, sub_in}
use Rattle.range.proofs.Answers.{none-some, some_is, provided_is}
use Rattle.range.proofs.Valid.{Valid}
use Rattle.evaluate.specs.Evaluate.{binary_value}
use Rattle.evaluate.specs.U128 as u128
use Rattle.evaluate.specs.declared.Binary.{Binary}
use Rattle.evaluate.specs.declared.Binary.TheVariants as bi
use Rattle.evaluate.proofs.Fields.{narrow, signed-narrow}
use Rattle.bit_laws.proofs.Sums.{Wrap, under, over, wrap}
use Rattle.graph.specs.Layout.{count_of}
use Rattle.graph.specs.Node.{type_at}
use Rattle.fold.specs.Shape.{same_type, is_any, ByConstant, by_constant_at, origin}
use Rattle.fold.specs.Operator.{sums}
use Rattle.assume.specs.Limits.{Limits, limited_to}
use Rattle.assume.specs.Refine.{undone_bits, ordered, undone_integer, undone, Next, next, base_of}
use Rattle.meaning.specs.Value.{size, integer_of}
use Rattle.meaning.proofs.Worlds.{World, value}
use Rattle.meaning.proofs.Answers.{of_any, Each, each_some, each_given, each_provided, each_mapped}
use Rattle.meaning.proofs.Invariant.{Inv}
use Rattle.meaning.proofs.Constants.{pattern}
use Rattle.meaning.proofs.Views.{same_type_lem, value_small}
use Rattle.meaning.proofs.Modular.{checked_is, sub_low}
use Rattle.meaning.proofs.Shifts.{origin-value}
use Rattle.meaning.proofs.Offsets.{Arithmetic, link, Shifts, add-shifts, sub-shifts}

-- ---- what is meant by limits of a node

-- an integer between limits
pub record Obeys (z : ℤ) (l : Limits) : Type 0 where
  pub least : (m : ℤ) → l.lower ≡ Some m → m ≤ℤ z
  pub most : (m : ℤ) → l.upper ≡ Some m → z ≤ℤ m

-- the ends of a range are limits of what lies in it
pub obeys : (z : ℤ) (a : Interval) → z ∈ a → Obeys z (limited_to a)
obeys z a h = record { least = each_some (λ m. m ≤ℤ z) a.low h.above; most = each_some (λ m. z ≤ℤ m) a.high h.below }

-- where the values are as declared, node n has one, which lies between the limits
abbrev pub Held : World → List ℕ → ℕ → Limits → Type 0
Held ρ g n l = ρ.IsSure → (v : ℕ) × (value ρ g n ≡ Some v) × Obeys (integer_of (type_at g n) v) l

-- a node whose value lies between the limits
pub record Bounded (ρ : World) (g : List ℕ) (n : ℕ) (l : Limits) : Type 0 where
  pub here : n < count_of g
  pub held : Held ρ g n l

-- ---- Bits

-- numbers in order stay so when k is added modulo S, where the outer two do
module _ (S k m y n : ℕ) (lk : k ≤ S) (low : m ≤ y) (high : y ≤ n) (ln : n < S) where
  turned : (m + k) % S ≤ (n + k) % S → ((m + k) % S ≤ (y + k) % S) × ((y + k) % S ≤ (n + k) % S)
  turned e = go (wrap (m + k) S (omega arith)) (wrap (y + k) S (omega arith)) (wrap (n + k) S (omega arith))
    where
      go : Wrap (m + k) S ((m + k) % S) → Wrap (y + k) S ((y + k) % S) → Wrap (n + k) S ((n + k) % S)
          → ((m + k) % S ≤ (y + k) % S) × ((y + k) % S ≤ (n + k) % S)
      go (under a b) (under c d) (under f h) = omega arith
      go (under a b) (under c d) (over f h) = absurd (omega arith)
      go (under a b) (over c d) (under f h) = absurd (omega arith)
      go (under a b) (over c d) (over f h) = absurd (omega arith)
      go (over a b) (under c d) (under f h) = absurd (omega arith)
      go (over a b) (under c d) (over f h) = absurd (omega arith)
      go (over a b) (over c d) (under f h) = absurd (omega arith)
      go (over a b) (over c d) (over f h) = omega arith

-- the ends of a range inside Bits(w), as numbers
record Numbers (w : ℕ) (low high : ℤ) : Type 0 where
  m : ℕ
  n : ℕ
  least : low ≡ pos m
  most : high ≡ pos n
  small : n < 2 ^ w

-- they are numbers
numbers : (w : ℕ) (a : Interval) → w < 128 → Valid (ty.Bits w) a → Numbers w a.low a.high
numbers w a h v =
    let t = tests (nonnegative a) _ v.inside in
    by a.low a.high (at_most_lem (pos 0) a.low t.0) v.full
    (⊎_elim (λ q. absurd (let p = leb-true 128 w q in omega arith)) (λ q. at_most_lem a.high (pos (2 ^ w - 1)) q)
    (either (leb 128 w) (le_z a.high (pos (2 ^ w - 1))) t.1))
  where
    by : (x y : ℤ) → pos 0 ≤ℤ x → x ≤ℤ y → y ≤ℤ pos (2 ^ w - 1) → Numbers w x y
    by (pos m) (pos n) p q r = record { m = m; n = n; least = refl; most = refl; small = lt_of_le_ones w (let k : n ≤ 2 ^ w - 1 = omega orders in k) }
    by (pos m) (negsuc n) p q r = absurd (omega orders)
    by (negsuc m) y p q r = absurd (omega orders)

-- f is + k modulo 2 ^ w, and x is f of y
module _ (w : ℕ) (thin : w < 128) (f : ℕ → ℕ) (k : ℕ) (lk : k ≤ 2 ^ w) (law : (n : ℕ) → n < 2 ^ w → f n % 2 ^ w ≡ (n + k) % 2 ^ w)
    (x y : ℕ) (a r : Interval) (valid : Valid (ty.Bits w) a) (small : y < 2 ^ w) (is : x ≡ f y % 2 ^ w) (has : (pos y) ∈ a) where
  -- so it lies between f of the ends, where these come in order
  bits_in : ordered (f (residue 128 a.low) % 2 ^ w) (f (residue 128 a.high) % 2 ^ w) ≡ Some r → (pos x) ∈ r
  bits_in e =
      let s = numbers w a thin valid in
      let low : s.m ≤ y = omega (orders, has.above, ap up s.least, ap down s.least) in
      let high : y ≤ s.n = omega (orders, has.below, ap up s.most, ap down s.most) in
      let lm : s.m < 2 ^ w = (let q = s.small in omega arith) in
      let p = provided_is (leb (f (residue 128 a.low) % 2 ^ w) (f (residue 128 a.high) % 2 ^ w)) _ e in
      let ea = end a.low s.m s.least lm in
      let eb = end a.high s.n s.most s.small in
      let b : f (residue 128 a.low) % 2 ^ w ≤ f (residue 128 a.high) % 2 ^ w = leb-true _ _ p.0 in
      let t : (s.m + k) % 2 ^ w ≤ (s.n + k) % 2 ^ w = rw (ea, eb) at b in
      let z = turned (2 ^ w) k s.m y s.n lk low high s.small t in
      let ex : x ≡ (y + k) % 2 ^ w = is ∙ law y small in
      subst (λ (i : Interval). (pos x) ∈ i) (some_is p.1) (record {
        above = rw (read a.low, ea, ex) (let q = z.0 in omega orders);
        below = rw (read a.high, eb, ex) (let q = z.1 in omega orders);
      })
    where
      wide : w ≤ 128
      wide = omega arith

      read : (u : ℤ) → signed 128 (f (residue 128 u) % 2 ^ w) ≡ pos (f (residue 128 u) % 2 ^ w)
      read u = signed-narrow w 128 (f (residue 128 u) % 2 ^ w) thin (mod-lt (f (residue 128 u)) (pow_pos w))

      end : (u : ℤ) (j : ℕ) → u ≡ pos j → j < 2 ^ w → f (residue 128 u) % 2 ^ w ≡ (j + k) % 2 ^ w
      end u j q l = ap (λ (i : ℤ). f (residue 128 i) % 2 ^ w) q ∙ ap (λ (i : ℕ). f i % 2 ^ w) (residue-pos 128 j (pattern (ty.Bits w) j wide l)) ∙ law j l

-- what y is by c, x is by what is undone
undoes : (o : Binary) (w c x y v : ℕ) → Shifts o w c y v → x < 2 ^ w → binary_value o (ty.Bits w) x c ≡ Some y → x ≡ v % 2 ^ w
undoes o w c x y v s l e = eqb-true x (v % 2 ^ w) (sym (s x y l e) ∙ eq-eqb y y refl)

-- ---- of any type

module _ (c x y : ℕ) (a r : Interval) where
  -- the base lies in what is undone
  abbrev Undoes : ScalarType → Binary → Option Interval → Type 0
  Undoes t o u = binary_value o t x c ≡ Some y → u ≡ Some r → (integer_of t x) ∈ r

  -- in Bits(w)
  undone_bits_lem : (w : ℕ) → w < 128 → c < 2 ^ w → x < 2 ^ w → y < 2 ^ w → Valid (ty.Bits w) a → (pos y) ∈ a → (o : Binary) → is_any sums o ≡ true
      → Undoes (ty.Bits w) o (ordered (undone_bits w o c a.low) (undone_bits w o c a.high))
  undone_bits_lem w thin lc lx ly valid has =
      let wide : w ≤ 128 = omega arith in
      of_any (λ o. Undoes (ty.Bits w) o (ordered (undone_bits w o c a.low) (undone_bits w o c a.high))) sums
      (λ e q.
      bits_in w thin (λ n. u128.wrapping_sub n c) (2 ^ w - c) (omega arith) (λ n l. sub_low w n c wide l lc) x y a r valid ly
      (undoes bi.Add w c x y _ (add-shifts w c y wide lc ly) lx e) has q)
      (λ e q.
      bits_in w thin (λ n. u128.wrapping_add n c) c (omega arith) (λ n l. narrow (n + c) 128 w wide) x y a r valid ly
      (undoes bi.Sub w c x y _ (sub-shifts w c y wide lc ly) lx e) has q)

  -- in Integer
  undone_integer_lem : (signed 128 y) ∈ a → (o : Binary) → is_any sums o ≡ true
      → Undoes ty.Integer o (between (undone_integer o (signed 128 c) a.low) (undone_integer o (signed 128 c) a.high))
  unfolding binary_value add_interval sub_interval
  undone_integer_lem h =
      let k = signed 128 c in
      of_any (λ o. Undoes ty.Integer o (between (undone_integer o k a.low) (undone_integer o k a.high))) sums
      (λ e q.
      subst (λ (z : ℤ). z ∈ r) (ap (λ (z : ℤ). z -ℤ k) (checked_is _ y e).1 ∙ +ℤ-neg_ℤ_cancel (signed 128 x) k)
      (sub_in a (point k) r (signed 128 y) k h (point_in k) q))
      (λ e q.
      subst (λ (z : ℤ). z ∈ r) (ap (λ (z : ℤ). z +ℤ k) (checked_is _ y e).1 ∙ -ℤ-+ℤ_cancel (signed 128 x) k)
      (add_in a (point k) r (signed 128 y) k h (point_in k) q))

  -- in any type
  undone_in : (t : ScalarType) → c < size t → x < size t → y < size t → Valid t a → (integer_of t y) ∈ a → (o : Binary) → Undoes t o (undone t o c a)
  unfolding undone
  undone_in ty.Bool lc lx ly valid h o e q = absurd (none-some q)
  undone_in (ty.Bits w) lc lx ly valid h o e q =
      let p = provided_is _ _ q in
      let b = tests (ltb w 128) (is_any sums o) p.0 in
      undone_bits_lem w (ltb-true w 128 b.0) lc lx ly valid h o b.1 e p.1
  undone_in ty.Integer lc lx ly valid h o e q = let p = provided_is (is_any sums o) _ q in undone_integer_lem h o p.0 e p.1

-- only sums are undone
undone-sums : (t : ScalarType) (o : Binary) (c : ℕ) (a r : Interval) → undone t o c a ≡ Some r → is_any sums o ≡ true
unfolding undone
undone-sums ty.Bool o c a r e = absurd (none-some e)
undone-sums (ty.Bits w) o c a r e = (tests (ltb w 128) (is_any sums o) (provided_is _ _ e).0).1
undone-sums ty.Integer o c a r e = (provided_is (is_any sums o) _ e).0

-- ---- the base of a node

module _ {ρ : World} {g : List ℕ} (i : Inv ρ g) (n : ℕ) (l : n < count_of g) (a : Interval) (valid : Valid (type_at g n) a)
    (has : ρ.IsSure → (v : ℕ) × (value ρ g n ≡ Some v) × ((integer_of (type_at g n) v) ∈ a)) where
  -- the node that follows has a value in its range
  abbrev Follows : Next → Type 0
  Follows x = Bounded ρ g x.node (limited_to x.range)

  -- the base of the sum
  by_constant_follows : (c : ByConstant) → by_constant_at g (origin g n) ≡ Some c → type_at g c.base ≡ type_at g n → (r : Interval)
      → undone (type_at g n) c.op c.value a ≡ Some r → Follows (next c.base r)
  by_constant_follows c e s r q =
      let t = type_at g n in
      let (lo, same) = origin-value i n l in
      let sum : Arithmetic c.op = of_any Arithmetic sums (λ a b t. refl) (λ a b t. refl) c.op (undone-sums t c.op c.value a r q) in
      let k = link i (origin g n) c (type_at g (origin g n)) lo refl e sum in
      let to : type_at g (origin g n) ≡ t = sym k.type ∙ s in
      record {
        here = k.here;
        held = λ sure.
            let (y, ey, h) = has sure in
            let (x, ex, ev) = k.means y (sym (same sure) ∙ ey) in
            let small : x < size t = subst (λ (u : ScalarType). x < size u) s (value_small i c.base k.here x ex) in
            let d = undone_in c.value x y a r t (subst (λ (u : ScalarType). c.value < size u) to k.small) small (value_small i n l y ey) valid h c.op
            ((λ z. binary_value c.op (sym to z) x c.value) ∙ ev) q in
            (x, ex, rw s (obeys (integer_of t x) r d));
      }

  -- what holds of the base, if the node is a sum with a constant
  pub base_follows : Each Follows (base_of g n a)
  unfolding base_of
  base_follows =
      each_given Follows (by_constant_at g (origin g n))
      (λ c e.
      each_provided Follows (same_type (type_at g c.base) (type_at g n))
      (λ s.
      each_mapped Follows (next c.base) (undone (type_at g n) c.op c.value a)
      (λ r q. by_constant_follows c e (same_type_lem (type_at g c.base) (type_at g n) s) r q)))
