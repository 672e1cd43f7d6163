-- Records in blocks of bytes: what a run over the records at the start of a block leaves.
use Rattle.std.specs.Prelude.{Bool, true, false, List, [], ◌∷◌, ◌++◌, ◌⊎◌, ◌≡◌, ℕ, ◌≤◌, ◌<◌, length, take, drop}
use Rattle.std.specs.Prelude.{Option, None, Some}
use Rattle.record.specs.Record.{first_length}
use Rattle.record.specs.Line.{LINE}
use Rattle.record.specs.Perform.{effect_in_graph}
use Rattle.record.specs.declared.perform.Step.{Step}
use Rattle.record.specs.declared.perform.Step.TheVariants as step
use Rattle.meaning.specs.Program.{Run, next}
use Rattle.scalars.specs.declared.blocks.One.{One}

-- ---- one record

-- the first record of some bytes has k bytes, there is room for a line, and n bytes of the slice are its line
pub record Wrote (g m bytes line : List ℕ) (k n : ℕ) (is_last : Bool) (h w after : List ℕ) : Type 0 where
  pub whole : first_length bytes ≡ Some k
  pub effect : effect_in_graph g m (take k bytes) ≡ record { text = take n after; is_last = is_last; graph = h; mapping = w }
  pub within : n ≤ length line
  pub rest : drop n after ≡ drop n line

-- no whole record, or no room for a line: nothing is done
pub record Waits (g m bytes line h w after : List ℕ) : Type 0 where
  pub why : (first_length bytes ≡ None) ⊎ (length line < LINE)
  pub graph : h ≡ g
  pub mapping : w ≡ m
  pub unwritten : after ≡ line

-- what its length and its step say of them
abbrev pub StepSays : ℕ → Step → List ℕ → List ℕ → List ℕ → List ℕ → List ℕ → List ℕ → List ℕ → Type 0
StepSays k (step.Line n) g m bytes line h w after = Wrote g m bytes line k n false h w after
StepSays k (step.Last n) g m bytes line h w after = Wrote g m bytes line k n true h w after

-- what the first record says of the slices before and after it
abbrev pub OneSays : Option One → List ℕ → List ℕ → List ℕ → List ℕ → List ℕ → List ℕ → List ℕ → Type 0
OneSays None g m bytes line h w after = Waits g m bytes line h w after
OneSays (Some one) g m bytes line h w after = StepSays one.len one.step g m bytes line h w after

-- ---- the records of a block

-- records in their order
abbrev pub runs : Run → List (List ℕ) → Run
runs s [] = s
runs s (r ∷ rs) = runs (next s r) rs

-- records one behind the other
abbrev pub joined : List (List ℕ) → List ℕ
joined [] = []
joined (r ∷ rs) = r ++ joined rs

-- a region and a mapping before a record
abbrev pub standing : List ℕ → List ℕ → Run
standing g m = record { text = []; is_over = false; graph = g; mapping = m }

-- every record has just its own bytes
abbrev pub AllWhole : List (List ℕ) → Type 0
AllWhole [] = Unit {0}
AllWhole (r ∷ rs) = (first_length r ≡ Some (length r)) × AllWhole rs

-- the first `read` bytes of a block are records, what they print are the first `written` bytes of the slice, the rest of it stays
pub record Through (g m input out : List ℕ) (read written : ℕ) (is_over : Bool) (h w after : List ℕ) : Type 0 where
  pub records : List (List ℕ)
  pub whole : AllWhole records
  pub bytes : joined records ≡ take read input
  pub run : runs (standing g m) records ≡ record { text = take written after; is_over = is_over; graph = h; mapping = w }
  pub within : (read ≤ length input) × (written ≤ length out)
  pub rest : drop written after ≡ drop written out

-- a run ends with a bad record, without a whole record, or without room for a line
abbrev pub Stops : List ℕ → List ℕ → ℕ → ℕ → Bool → Type 0
Stops input out read written true = Unit {0}
Stops input out read written false = (first_length (drop read input) ≡ None) ⊎ (length (drop written out) < LINE)
