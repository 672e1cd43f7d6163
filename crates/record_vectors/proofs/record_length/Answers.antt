-- `record_vectors::record_length` meets its contract: a record that is there whole has a header and ends within the bytes. Assumes nothing.
use mathlib.Core.Bool.{Bool, true, false}
use mathlib.Core.List.{List}
use Rattle.std.specs.Prelude.{Option, None, Some, unwrap_or}
use mathlib.Core.Path.{◌≡◌, refl, sym}
use Prim.Native.Nat.{ℕ, ◌+◌, ◌≤◌, ◌<◌}
use native.Mathlib.Omega.{arith}
use borrow.Author.Tests.{leb-true}
use lib.Dec.{leb}
use lib.ListN.{length}
use Rattle.word.specs.Option.{provided, only}
use Rattle.record.specs.Record.{HEADER, body_length, first_length}
use Rattle.record_vectors.proofs.record_length.Goals as goal

-- the first record
first-within : (bs : List ℕ) (k : ℕ) → first_length bs ≡ Some k → (0 < k) × (k ≤ length bs)
unfolding first_length
first-within bs k e = by (leb HEADER (length bs)) (leb end (length bs)) refl e
  where
    end : ℕ
    end = HEADER + body_length bs

    by : (h t : Bool) → leb end (length bs) ≡ t → provided h (only t end) ≡ Some k → (0 < k) × (k ≤ length bs)
    by true true q e = let z : end ≡ k = cc in (omega arith, omega (arith, leb-true end (length bs) q))
    by true false q e = let z : ◌≡◌ {A = ℕ} 0 1 = cc in absurd (omega arith)
    by false t q e = let z : ◌≡◌ {A = ℕ} 0 1 = cc in absurd (omega arith)

-- that, or all bytes
or-all : (bs : List ℕ) (o : Option ℕ) → 0 < length bs → o ≡ first_length bs → (0 < unwrap_or o (length bs)) × (unwrap_or o (length bs) ≤ length bs)
or-all bs None some e = (some, omega arith)
or-all bs (Some k) some e = first-within bs k (sym e)

pub returns : goal.returns
returns c = rw c.unwrap_or.ensures (or-all c.args.bytes.now c.first_length.result c.requires c.first_length.ensures)
