-- What a return to a mark gives back: calls one after another on both regions, from any that pass question 1, and beside the book.
use Rattle.std.specs.Prelude.{List, [], ◌∷◌, ◌≡◌, ℕ, ◌≤◌}
use Rattle.native.specs.Call as calls
use Rattle.native.specs.Perform.{request_call}
use Rattle.native.specs.Retain as retaining
use Rattle.guard_list.specs.GuardList.{guards_call}
use Rattle.mark.specs.Mark.{mark_call, return_call, retain_call}
use Rattle.meaning.specs.Value.{Env}
use Rattle.meaning.specs.Book.{Action, request, retain, mark, return_to, guards, patterned, History, act}

-- the graph's region and the marks'
pub record Regions : Type 0 where
  pub graph : List ℕ
  pub marks : List ℕ

-- what a call leaves of them
abbrev pub left : Action → Regions → Regions
left (request q) r = record { graph = (request_call r.graph (patterned q)).words; marks = r.marks }
left (retain keep mapping) r =
    record { graph = (retain_call r.graph r.marks keep mapping).retention.words; marks = (retain_call r.graph r.marks keep mapping).marks }
left mark r = record { graph = r.graph; marks = (mark_call r.graph r.marks).marks }
left (guards cs es) r = record { graph = (guards_call r.graph cs es).words; marks = r.marks }
left (return_to k) r = record { graph = (return_call r.graph r.marks k).words; marks = (return_call r.graph r.marks k).marks }

-- calls, the latest first, each handed the regions as the last left them
abbrev pub left_by : List Action → Regions → Regions
left_by [] r = r
left_by (a ∷ before) r = left a (left_by before r)

-- a call that leaves mark n standing: no retain, unless it is refused, and no return to an earlier mark, unless it is
abbrev pub Spares : ℕ → Regions → Action → Type 0
Spares n r (request q) = Unit {0}
Spares n r (retain keep mapping) = (k : ℕ) → (retain_call r.graph r.marks keep mapping).retention.outcome ≡ retaining.kept k → ⊥
Spares n r mark = Unit {0}
Spares n r (guards cs es) = Unit {0}
Spares n r (return_to k) = (return_call r.graph r.marks k).answer ≡ calls.done → n ≤ k

-- each of some calls
abbrev pub AllSpare : ℕ → Regions → List Action → Type 0
AllSpare n r [] = Unit {0}
AllSpare n r (a ∷ before) = AllSpare n r before × Spares n (left_by before r) a

-- the regions that a mark leaves of a graph and its marks
abbrev pub after : List ℕ → List ℕ → Regions
after g m = record { graph = g; marks = (mark_call g m).marks }

-- ---- beside the book

-- the regions that some calls leave
abbrev pub regions_of : History → Regions
regions_of h = record { graph = h.now.graph; marks = h.marks }

-- more calls, the latest first
abbrev pub play_on : Env → List Action → History → History
play_on ρ [] h = h
play_on ρ (a ∷ before) h = act ρ a (play_on ρ before h)

-- each of them leaves mark n standing
abbrev pub AllSparing : Env → ℕ → History → List Action → Type 0
AllSparing ρ n h [] = Unit {0}
AllSparing ρ n h (a ∷ before) = AllSparing ρ n h before × Spares n (regions_of (play_on ρ before h)) a
