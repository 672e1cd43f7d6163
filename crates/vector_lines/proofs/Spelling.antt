-- Laws of hex digits: how a number is read digit by digit, in two parts, and how it is written in two parts. Assumes nothing.
use mathlib.Core.Bool.{Bool, true, false}
use mathlib.Core.List.{List, [], ◌∷◌, ◌++◌, append_assoc, append-nil}
use Rattle.std.specs.Prelude.{Option, None, Some}
use mathlib.Core.Path.{◌≡◌, refl, sym, ap, ◌∙◌}
use Prim.Native.Nat.{ℕ, zero, suc, ◌+◌, ◌-◌, ◌*◌, ◌/◌, ◌%◌, ◌^◌, ◌≤◌, ◌<◌}
use native.Mathlib.Nat.{pow-suc, pow-le-pow_right, lt_of_lt_of_le, le_of_eq, add-zero, add-suc, suc-add, zero-add, zero-lt-suc, mul_assoc}
use native.Mathlib.Numerals.{add-one}
use native.Mathlib.Omega.{arith}
use lib.Arith.{digits_lt}
use lib.Dec.{eqb, ltb, leb}
use lib.ListN.{length, take, drop, take-append-drop, length-drop, length-append}
use lib.Seq.{take_all, length-take-le}
use Rattle.word.specs.Option.{provided}
use Rattle.io.specs.Digits.{last_digits, hex_digit_ascii}
use Rattle.vector_lines.specs.Text.{digit_value, spelled_after, spelled, hex_digits}

-- ---- a number of at most 16 digits

-- one more digit still fits 64 bits
pub room : {n i : ℕ} → n < 16 ^ i → i < 16 → n * 16 + 15 < 2 ^ 64
room {n} {i} f g = lt_of_lt_of_le (rw (pow-suc 16 i) (digits_lt {q = n} f (omega arith))) (pow-le-pow_right (zero-lt-suc 15) g)

-- ---- digits are read in two parts

-- what is read after a number that was read
abbrev after : Option ℕ → List ℕ → Option ℕ
after None l = None
after (Some n) l = spelled_after n l

provided_after : (t : Bool) (o : Option ℕ) (l : List ℕ) → provided t (after o l) ≡ after (provided t o) l
provided_after true o l = refl
provided_after false o l = refl

spelled-append : (n : ℕ) (l m : List ℕ) → spelled_after n (l ++ m) ≡ after (spelled_after n l) m
spelled-append n [] m = refl
spelled-append n (b ∷ l) m =
    rw (spelled-append (n * 16 + digit_value b) l m) (provided_after (ltb (digit_value b) 16) (spelled_after (n * 16 + digit_value b) l) m)

-- more by a
abbrev raised : ℕ → Option ℕ → Option ℕ
raised a None = None
raised a (Some n) = Some (a + n)

provided-raised : (t : Bool) (a : ℕ) (o : Option ℕ) → provided t (raised a o) ≡ raised a (provided t o)
provided-raised true a o = refl
provided-raised false a o = refl

-- what is read after h stands above what is read alone
spelled-raised : (h j n : ℕ) (l : List ℕ) → spelled_after (h * 16 ^ j + n) l ≡ raised (h * 16 ^ (j + length l)) (spelled_after n l)
spelled-raised h j n [] = rw (add-zero j)
spelled-raised h j n (b ∷ l) =
    let d = digit_value b in
    let p : h * 16 ^ suc j ≡ h * 16 ^ j * 16 = rw (pow-suc 16 j) (sym (mul_assoc h (16 ^ j) 16)) in
    let e : (h * 16 ^ j + n) * 16 + d ≡ h * 16 ^ suc j + (n * 16 + d) = omega (arith, p) in
    rw (e, spelled-raised h (suc j) (n * 16 + d) l, suc-add j (length l), add-suc j (length l))
    (provided-raised (ltb d 16) (h * 16 ^ suc (j + length l)) (spelled_after (n * 16 + d) l))

-- two numbers of 64 bits as one
abbrev joined : Option ℕ → Option ℕ → Option ℕ
joined None o = None
joined (Some h) None = None
joined (Some h) (Some l) = Some (h * 2 ^ 64 + l)

joined-raised : (h : ℕ) (o : Option ℕ) → raised (h * 2 ^ 64) o ≡ joined (Some h) o
joined-raised h None = refl
joined-raised h (Some n) = refl

joined_after : (o : Option ℕ) (l : List ℕ) → length l ≡ 16 → after o l ≡ joined o (spelled l)
joined_after None l e = refl
joined_after (Some h) l e =
    let z : h * 16 ^ 0 + 0 ≡ h = omega arith in
    (rw (z, zero-add (length l), e) at (spelled-raised h 0 0 l)) ∙ joined-raised h (spelled l)

-- 32 digits are read as two times 16
halves_read : (l : List ℕ) → length l ≡ 32 → spelled l ≡ joined (spelled (take 16 l)) (spelled (drop 16 l))
halves_read l e =
    let s : length (drop 16 l) ≡ 16 = rw (length-drop, e) in
    ap spelled (sym (take-append-drop 16 l)) ∙ spelled-append 0 (take 16 l) (drop 16 l) ∙ joined_after (spelled (take 16 l)) (drop 16 l) s

-- the same of the parts as code takes them
pub parts_read : (l : List ℕ) → length l ≡ 32 → (h o : Option ℕ) → h ≡ provided (leb (length (take 16 l)) 16) (spelled (take 16 l))
    → o ≡ provided (leb (length (take (length l - 16) (drop 16 l))) 16) (spelled (take (length l - 16) (drop 16 l)))
    → joined h o ≡ provided (eqb (length l) 32) (spelled l)
parts_read l e h o p q =
    let a : length (take 16 l) ≡ 16 = length-take-le 16 l (omega (arith, e)) in
    let b : take (length l - 16) (drop 16 l) ≡ drop 16 l = take_all (length l - 16) (drop 16 l) (le_of_eq (length-drop 16 l)) in
    let s : length (drop 16 l) ≡ 16 = rw (length-drop, e) in
    rw (p, q, a, b, s, e) (sym (halves_read l e))

-- ---- digits are written in two parts

pub length-hex_digits : (k n : ℕ) → length (hex_digits k n) ≡ k
unfolding hex_digits
length-hex_digits zero n = refl
length-hex_digits (suc k) n =
    length-append (last_digits 16 k (n / 16)) (hex_digit_ascii (n % 16) ∷ []) ∙ rw (length-hex_digits k (n / 16)) (add-one k)

pub halves_written : (j k h l : ℕ) → l < 16 ^ k → hex_digits (j + k) (h * 16 ^ k + l) ≡ hex_digits j h ++ hex_digits k l
unfolding hex_digits
halves_written j zero h l f =
    let z : h * 16 ^ 0 + l ≡ h = omega (arith, f) in
    rw (add-zero j, z) (sym (append-nil (last_digits 16 j h)))
halves_written j (suc k) h l f =
    let p : h * 16 ^ suc k ≡ h * 16 ^ k * 16 = rw (pow-suc 16 k) (sym (mul_assoc h (16 ^ k) 16)) in
    let q : (h * 16 ^ suc k + l) / 16 ≡ h * 16 ^ k + l / 16 = omega (arith, p) in
    let r : (h * 16 ^ suc k + l) % 16 ≡ l % 16 = omega (arith, p) in
    let g : l / 16 < 16 ^ k = omega (arith, f, pow-suc 16 k) in
    rw (add-suc j k, q, r, halves_written j k h (l / 16) g) (append_assoc (last_digits 16 j h) (last_digits 16 k (l / 16)) (hex_digit_ascii (l % 16) ∷ []))

-- what `io::hex` leaves in an array of 16
pub half_written : (t : List ℕ) (r n : ℕ) → length t ≡ 16 → r ≤ length t → 16 ≤ r → take r t ≡ last_digits 16 r n → t ≡ hex_digits 16 n
unfolding hex_digits
half_written t r n e f g h =
    let s : r ≡ 16 = omega (arith, e, f, g) in
    sym (take_all 16 t (le_of_eq e)) ∙ (rw s at h)
