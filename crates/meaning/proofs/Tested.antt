-- unsigned_range is sound: value - low is at most high - low, modulo 2 ^ w, just if the value lies between both. Assumes nothing.
use mathlib.Core.Path.{◌≡◌, refl, sym, ap, ◌∙◌, subst}
use mathlib.Core.Bool.{Bool, true, ◌&&◌}
use mathlib.Core.List.{List}
use mathlib.Core.Logic.{⊎_elim}
use Rattle.std.specs.Prelude.{Some}
use Prim.Native.Nat.{ℕ, ◌+◌, ◌-◌, ◌%◌, ◌^◌, ◌≤◌, ◌<◌, min}
use native.Mathlib.Nat.{mod-eq_of_lt, min-eq_left}
use native.Mathlib.Omega.{arith}
use borrow.Author.Tests.{leb-true, le-leb, lt-leb, eq-eqb}
use lib.Dec.{leb}
use lib.Pow.{lt_of_le_ones}
use Rattle.word.specs.Option.{from_bool}
use Rattle.word.proofs.Integer.{lt-or-ge}
use Rattle.range.specs.declared.ScalarType.{ScalarType}
use Rattle.range.specs.declared.ScalarType.TheVariants as ty
use Rattle.range.proofs.Sound.{tests}
use Rattle.evaluate.specs.Evaluate.{reduced, binary_value}
use Rattle.evaluate.specs.U128 as u128
use Rattle.evaluate.specs.declared.Binary.TheVariants as bi
use Rattle.graph.specs.Layout.{count_of}
use Rattle.graph.specs.Node.{type_at}
use Rattle.fold.specs.Shape.{mask}
use Rattle.build.specs.Build.{call, binary, by_constant, range_prog, is_testable, range_step, unsigned_range, build}
use Rattle.request.specs.Request as request
use Rattle.native.specs.Perform.{UNITS}
use Rattle.bit_laws.proofs.Sums.{Wrap, under, over, wrap, sub_exact}
use Rattle.meaning.specs.Value.{size, of_type, binary_means}
use Rattle.meaning.proofs.Worlds.{World, operand, value}
use Rattle.meaning.specs.Book.{request_means}
use Rattle.meaning.proofs.Answers.{by_test}
use Rattle.meaning.proofs.Modular.{sub_low}
use Rattle.meaning.proofs.Constants.{low_valued}
use Rattle.meaning.proofs.Values.{typed_of, then_is, truth_small}
use Rattle.meaning.proofs.Invariant.{stored_typed, Inv, ext_here, ext_type, ext_value}
use Rattle.meaning.proofs.Plans.{Number, constant_good, by_constant_good, bits_number}
use Rattle.meaning.proofs.Tree.{Ends, Sound, Good, exec-ends}
use Rattle.meaning.proofs.Views.{value_small}

-- ---- numbers

module _ (S a low high : ℕ) (la : a < S) (ordered : low ≤ high) (lh : high < S) where
  -- the difference is at most the extent just if a lies between both
  between : leb ((a + (S - low)) % S) (high - low) ≡ leb low a && leb a high
  between = go (wrap (a + (S - low)) S (omega arith))
    where
      go : Wrap (a + (S - low)) S ((a + (S - low)) % S) → leb ((a + (S - low)) % S) (high - low) ≡ leb low a && leb a high
      go (under p q) =
          let n : a < low = omega arith in
          let m : high - low < (a + (S - low)) % S = omega arith in
          lt-leb ((a + (S - low)) % S) (high - low) m ∙ sym (rw (lt-leb low a n))
      go (over p q) =
          let n : low ≤ a = omega arith in
          ⊎_elim
          (λ (h : high < a).
          let m : high - low < (a + (S - low)) % S = omega arith in
          lt-leb ((a + (S - low)) % S) (high - low) m ∙ sym (rw (le-leb low a n, lt-leb a high h)))
          (λ (h : a ≤ high).
          let m : (a + (S - low)) % S ≤ high - low = omega arith in
          le-leb ((a + (S - low)) % S) (high - low) m ∙ sym (rw (le-leb low a n, le-leb a high h)))
          (lt-or-ge high a)

-- ---- the program

module _ (ρ : World) (g : List ℕ) (i : Inv ρ g) (v low high w : ℕ) (l : v < count_of g) (type : type_at g v ≡ ty.Bits w) (is : is_testable w low high ≡ true) where
  narrow : w ≤ 64
  narrow = leb-true w 64 (tests (leb w 64) _ is).0

  ordered : low ≤ high
  ordered = leb-true low high (tests (leb low high) _ (tests (leb w 64) _ is).1).0

  high_small : high < 2 ^ w
  high_small =
      let n = narrow in
      let m : min w 128 ≡ w = min-eq_left (omega arith) in
      let h : high ≤ mask w = leb-true high (mask w) (tests (leb low high) _ (tests (leb w 64) _ is).1).1 in
      lt_of_le_ones w (subst (λ (k : ℕ). high ≤ 2 ^ k - 1) m h)

  low_small : low < 2 ^ w
  low_small = let a = ordered in let b = high_small in omega arith

  number : (n : ℕ) → Number (ty.Bits w) n
  number n = let k = narrow in bits_number (omega arith) n

  -- the difference with low, as the node of it has it
  difference : (a : ℕ) → a < 2 ^ w → binary_means (ty.Bits w) bi.Sub (Some a) (Some (reduced (ty.Bits w) low)) ≡ Some ((a + (2 ^ w - low)) % 2 ^ w)
  unfolding binary_value
  difference a la =
      let n = narrow in
      ap (λ (k : ℕ). of_type (ty.Bits w) (u128.wrapping_sub a k % 2 ^ w)) (mod-eq_of_lt low_small)
      ∙ ap (of_type (ty.Bits w)) (sub_low w a low (omega arith) la low_small) ∙ low_valued w (a + (2 ^ w - low))

  extent : reduced (ty.Bits w) (u128.wrapping_sub high low) ≡ high - low
  extent = let n = narrow in sub_low w high low (omega arith) high_small low_small ∙ sub_exact high low (2 ^ w) high_small ordered

  compared : (a : ℕ) → a < 2 ^ w
      → binary_means ty.Bool bi.LessEqualUnsigned (Some ((a + (2 ^ w - low)) % 2 ^ w)) (Some (reduced (ty.Bits w) (u128.wrapping_sub high low)))
      ≡ Some (from_bool (leb low a && leb a high))
  unfolding binary_value
  compared a la =
      ap (λ (k : ℕ). of_type ty.Bool (from_bool (leb ((a + (2 ^ w - low)) % 2 ^ w) k))) extent
      ∙ ap (λ (b : Bool). of_type ty.Bool (from_bool b)) (between (2 ^ w) a low high la ordered high_small)
      ∙ typed_of ty.Bool (from_bool (leb low a && leb a high)) (truth_small (leb low a && leb a high))

  range_good : Good ρ ty.Bool (request_means ρ.env (operand ρ g) (request.unsigned_range v low high)) (range_prog (ty.Bits w) v low high) g
  range_good =
      let wanted = request_means ρ.env (operand ρ g) (request.unsigned_range v low high) in
      constant_good ρ ty.Bool wanted g (ty.Bits w) low
      (λ c. call (binary (ty.Bits w) bi.Sub v c) (λ d. by_constant (ty.Bits w) (u128.wrapping_sub high low) ty.Bool bi.LessEqualUnsigned d)) (number low)
      (λ c h a here t m. (
        (
          (number low).width,
          ext_here a.grows v l,
          here,
          (λ k. stored_typed bi.Sub ((ext_type a.grows v l ∙ type) k) (t k) (ty.Bits w)) ∙ rw (eq-eqb w w refl),
        ),
        λ n j b f.
            by_constant_good ρ ty.Bool wanted j (ty.Bits w) (u128.wrapping_sub high low) ty.Bool bi.LessEqualUnsigned n (
              number (u128.wrapping_sub high low),
              refl,
              omega arith,
              f.here,
              ap (λ (s : ScalarType). stored_typed bi.LessEqualUnsigned s (ty.Bits w) ty.Bool) f.type ∙ eq-eqb w w refl,
              λ sure x e.
                  let p = then_is (value ρ g v) (λ y. Some (from_bool (leb low y && leb y high))) x e in
                  let small : p.0 < 2 ^ w = subst (λ (s : ScalarType). p.0 < size s) type (value_small i v l p.0 p.1) in
                  let d : binary_means (ty.Bits w) bi.Sub (value ρ h v) (value ρ h c) ≡ Some ((p.0 + (2 ^ w - low)) % 2 ^ w)
                  = (λ k. binary_means (ty.Bits w) bi.Sub ((ext_value ρ a.grows v l ∙ p.1) k) (m sure k)) ∙ difference p.0 small in
                  (λ k. binary_means ty.Bool bi.LessEqualUnsigned (f.means sure ((p.0 + (2 ^ w - low)) % 2 ^ w) d k) (Some (reduced (ty.Bits w) (u128.wrapping_sub high low))))
                  ∙ compared p.0 small ∙ p.2,
            ),
      ))

-- ---- unsigned_range

module _ (ρ : World) (builds : Sound ρ build) (g : List ℕ) (i : Inv ρ g) (v low high : ℕ) (l : v < count_of g) where
  step_good : (t : ScalarType) → type_at g v ≡ t → Good ρ ty.Bool (request_means ρ.env (operand ρ g) (request.unsigned_range v low high)) (range_step t v low high) g
  step_good ty.Bool e = tt
  step_good (ty.Bits w) e =
      by_test (λ p. Good ρ ty.Bool (request_means ρ.env (operand ρ g) (request.unsigned_range v low high)) p g) (is_testable w low high)
      (λ q. range_good ρ g i v low high w l e q) (λ q. tt)
  step_good ty.Integer e = tt

  pub range_sound : Ends ρ g ty.Bool (request_means ρ.env (operand ρ g) (request.unsigned_range v low high)) (unsigned_range v low high UNITS g)
  unfolding unsigned_range
  range_sound =
      exec-ends ρ ty.Bool (request_means ρ.env (operand ρ g) (request.unsigned_range v low high)) build builds (range_step (type_at g v) v low high) UNITS g i
      (step_good (type_at g v) refl)
