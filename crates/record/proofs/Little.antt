-- Laws of numbers in bytes, the low one first. Assumes nothing.
use mathlib.Core.List.{List, [], ◌∷◌, ◌++◌}
use mathlib.Core.Path.{◌≡◌, sym, ap, ◌∙◌}
use Prim.Native.Nat.{ℕ, suc, ◌+◌, ◌*◌, ◌^◌, ◌≤◌, ◌<◌}
use native.Mathlib.Nat.{pow-suc, pow-le-pow_right, lt_of_lt_of_le, zero-lt-suc, mul_assoc}
use native.Mathlib.Omega.{arith}
use lib.ListN.{length, take, drop, take-append-drop, length-drop}
use lib.Seq.{get_or-drop, length-take-le, take_all}
use Rattle.std.specs.Int.{w64, from_le_bytes}
use Rattle.record.specs.Record.{little, Bytes}

pub bytes_drop : (k : ℕ) (bs : List ℕ) → Bytes bs → Bytes (drop k bs)
bytes_drop k bs b i = rw (get_or-drop k bs i 0) (b (k + i))

pub little-lt : (bs : List ℕ) → Bytes bs → little bs < 256 ^ length bs
little-lt [] b = omega arith
little-lt (x ∷ bs) b = let h = little-lt bs (λ i. b (suc i)) in omega (arith, h, b 0, pow-suc 256 (length bs))

-- at most k bytes
pub little_below : (k : ℕ) (bs : List ℕ) → Bytes bs → length bs ≤ k → little bs < 256 ^ k
little_below k bs b l = lt_of_lt_of_le (little-lt bs b) (pow-le-pow_right (zero-lt-suc 255) l)

-- two parts
pub little-append : (xs ys : List ℕ) → little (xs ++ ys) ≡ little xs + 256 ^ length xs * little ys
little-append [] ys = omega arith
little-append (x ∷ xs) ys =
    let e : 256 * (256 ^ length xs * little ys) ≡ 256 ^ suc (length xs) * little ys = sym (mul_assoc 256 (256 ^ length xs) (little ys)) ∙ ap (λ (n : ℕ). n * little ys) (omega (arith, pow-suc 256 (length xs))) in
    omega (arith, little-append xs ys, e)

-- std's word for eight bytes
pub little_8 : (bs : List ℕ) → length bs ≡ 8 → from_le_bytes w64 bs ≡ little bs
little_8 (a ∷ b ∷ c ∷ d ∷ i ∷ j ∷ k ∷ l ∷ []) e = omega arith
little_8 _ e = absurd (omega arith)

-- a number of 16 bytes by its halves
pub little_halves : (bs : List ℕ) → length bs ≡ 16 → little (drop 8 bs) * 2 ^ 64 + little (take 8 bs) ≡ little bs
little_halves bs l =
    let e : length (take 8 bs) ≡ 8 = length-take-le 8 bs (omega (arith, l)) in
    let f : little bs ≡ little (take 8 bs) + 256 ^ length (take 8 bs) * little (drop 8 bs) = ap little (sym (take-append-drop 8 bs)) ∙ little-append (take 8 bs) (drop 8 bs) in
    let g : little bs ≡ little (take 8 bs) + 256 ^ 8 * little (drop 8 bs) = rw e at f in
    omega (arith, g)

-- a number of 16 bytes by std's words for its halves
pub little_16 : (bs : List ℕ) → length bs ≡ 16 → from_le_bytes w64 (take 8 (drop 8 bs)) * 2 ^ 64 + from_le_bytes w64 (take 8 bs) ≡ little bs
little_16 bs l =
    let h : take 8 (drop 8 bs) ≡ drop 8 bs = take_all 8 (drop 8 bs) (simp length-drop (omega (arith, l))) in
    rw (h, little_8 (drop 8 bs) (simp length-drop (omega (arith, l))), little_8 (take 8 bs) (length-take-le 8 bs (omega (arith, l)))) (little_halves bs l)
