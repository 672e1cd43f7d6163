-- Values handed in are 128-bit patterns: what a list of calls takes them for, and that it changes none that is one. Assumes nothing.
use mathlib.Core.Path.{◌≡◌, refl, ap, subst}
use Rattle.std.specs.Prelude.{Option, None, Some}
use Prim.Native.Nat.{◌^◌, ◌<◌}
use native.Mathlib.Nat.{mod-lt, mod-eq_of_lt}
use lib.Dec.{lit<}
use lib.Pow.{pow_pos}
use Rattle.word.proofs.Integer.{signed_mag, signed-residue, residue-lt}
use Rattle.range.specs.Interval.{Interval}
use Rattle.range.proofs.Answers.{none-some, some_is}
use Rattle.request.specs.Request as asks
use Rattle.request.specs.Request.{Request}
use Rattle.meaning.specs.Book.{signed_ends, patterned}
use Rattle.meaning.proofs.Invariant.{Ends}

-- a constant is below 2 ^ 128, the ends of a range are 128-bit numbers
abbrev pub Pattern : Request → Type 0
Pattern (asks.constant t v) = v < 2 ^ 128
Pattern (asks.input i t r) = (a : Interval) → r ≡ Some a → Ends a
Pattern (asks.effect i t) = Unit {0}
Pattern (asks.unary t o v) = Unit {0}
Pattern (asks.binary t o l r) = Unit {0}
Pattern (asks.slice v o w) = Unit {0}
Pattern (asks.concat h l v w) = Unit {0}
Pattern (asks.unsigned_range v low high) = Unit {0}
Pattern (asks.guard n e) = Unit {0}
Pattern (asks.unnamed ws is) = Unit {0}

signed-ends : (r : Option Interval) (a : Interval) → signed_ends r ≡ Some a → Ends a
signed-ends None a e = absurd (none-some e)
signed-ends (Some b) a e =
    subst Ends (some_is e)
    (record { low = signed_mag 128 _ (lit< tt) (residue-lt 128 b.low); high = signed_mag 128 _ (lit< tt) (residue-lt 128 b.high) })

pub patterned_is : (q : Request) → Pattern (patterned q)
patterned_is (asks.constant t v) = mod-lt v (pow_pos 128)
patterned_is (asks.input i t r) = signed-ends r
patterned_is (asks.effect i t) = tt
patterned_is (asks.unary t o v) = tt
patterned_is (asks.binary t o l r) = tt
patterned_is (asks.slice v o w) = tt
patterned_is (asks.concat h l v w) = tt
patterned_is (asks.unsigned_range v low high) = tt
patterned_is (asks.guard n e) = tt
patterned_is (asks.unnamed ws is) = tt

-- ---- a request with such values is performed as it is

ends_same : (r : Option Interval) → ((a : Interval) → r ≡ Some a → Ends a) → signed_ends r ≡ r
ends_same None e = refl
ends_same (Some a) e =
    let p = e a refl in
    ap Some (λ i. record { low = signed-residue 128 a.low (lit< tt) p.low i; high = signed-residue 128 a.high (lit< tt) p.high i })

pub patterned_same : (q : Request) → Pattern q → patterned q ≡ q
patterned_same (asks.constant t v) p = ap (asks.constant t) (mod-eq_of_lt p)
patterned_same (asks.input i t r) p = ap (asks.input i t) (ends_same r p)
patterned_same (asks.effect i t) p = refl
patterned_same (asks.unary t o v) p = refl
patterned_same (asks.binary t o l r) p = refl
patterned_same (asks.slice v o w) p = refl
patterned_same (asks.concat h l v w) p = refl
patterned_same (asks.unsigned_range v low high) p = refl
patterned_same (asks.guard n e) p = refl
patterned_same (asks.unnamed ws is) p = refl
