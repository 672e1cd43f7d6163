-- Laws of text in a slice: one text behind another. Assumes nothing.
use Rattle.std.proofs.Common.{◌≡◌, Bool, true, false, cond, leb, refl, ℕ, suc, ◌+◌, ◌-◌, ◌≤◌, ◌<◌, List, [], ◌∷◌, ◌++◌, sym, ap, ◌∙◌, append_assoc, append-nil, length, take, drop, set, arith, length-append, length-drop, add-one}
use Rattle.std.proofs.lemmas.List.{drop_all}
use borrow.Rule.Slice.PartMut.{put_mid}
use lib.Seq.{take_all, drop-drop, take-append_seam, drop-append_seam, drop-append-add, set_split}
use borrow.Author.Tests.{leb-true}
use Rattle.text.specs.Text.{placed, fitting}

-- t put into what is left of d behind s
pub placed-behind : (d s t whole part : List ℕ) (n k : ℕ) → n ≡ length s → k ≡ length whole - n → whole ≡ placed d s
    → part ≡ placed (take k (drop n whole)) t → put_mid n k whole part ≡ placed d (s ++ t)
unfolding placed
placed-behind d s t whole part n k e l f g =
    let front : take n whole ≡ s = rw (e, f) (take-append_seam s (drop (length s) d)) in
    let rest : drop n whole ≡ drop (length s) d = rw (e, f) (drop-append_seam s (drop (length s) d)) in
    let short : length (drop n whole) ≤ k = omega (arith, length-drop n whole) in
    let all : take k (drop n whole) ≡ drop (length s) d = take_all k (drop n whole) short ∙ rest in
    let none : drop k (drop n whole) ≡ [] = drop_all k (drop n whole) short in
    let put : part ≡ t ++ drop (length s + length t) d = rw (all, drop-drop) at g in
    rw (front, none, put, append-nil, length-append s t) (sym (append_assoc s t (drop (length s + length t) d)))

-- one byte stored behind s
pub set-placed : (d s : List ℕ) (v : ℕ) → length s < length d → set (placed d s) (length s) v ≡ placed d (s ++ (v ∷ []))
unfolding placed
set-placed d s v room =
    let rest = drop (length s) d in
    let long : length s < length (s ++ rest) = omega (arith, room, length-append s rest, length-drop (length s) d) in
    let after : drop (suc (length s)) (s ++ rest) ≡ drop (length s + 1) d =
    ap (λ (k : ℕ). drop k (s ++ rest)) (sym (add-one (length s))) ∙ drop-append-add s rest 1 ∙ drop-drop 1 (length s) d in
    set_split (s ++ rest) (length s) v long
    ∙ rw (take-append_seam s rest, after, length-append s (v ∷ [])) (sym (append_assoc s (v ∷ []) (drop (length s + 1) d)))

-- what is put where it fits has at most its own length, and ends within the slice
pub fitting_short : (n r : ℕ) (d : List ℕ) → r ≡ fitting n d → r ≤ n
fitting_short n r d e = by (leb n (length d)) e
  where
    by : (b : Bool) → r ≡ cond b n 0 → r ≤ n
    by true e = omega arith
    by false e = omega arith

pub fitting_within : (n r : ℕ) (d : List ℕ) → r ≡ fitting n d → r ≤ length d
fitting_within n r d e = by (leb n (length d)) refl e
  where
    by : (b : Bool) → leb n (length d) ≡ b → r ≡ cond b n 0 → r ≤ length d
    by true q e = omega (arith, leb-true n (length d) q)
    by false q e = omega arith
