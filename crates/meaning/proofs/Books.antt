-- A return to a mark puts the book back to what it was when the mark was set, whatever calls stand between that leave it. Assumes nothing.
use mathlib.Core.Path.{◌≡◌, refl, ap, ◌∙◌}
use mathlib.Core.List.{List, [], ◌∷◌, ◌++◌}
use Prim.Native.Nat.{ℕ, suc, ◌+◌, ◌<◌, ◌≤◌}
use native.Mathlib.Omega.{arith}
use lib.ListN.{length, get_or, length-append, length-take, get_or-append}
use lib.Seq.{get_or-append-add, get_or-take}
use Rattle.native.specs.Call as calls
use Rattle.native.specs.Call.{Response}
use Rattle.native.specs.Retain as retaining
use Rattle.mark.specs.Mark as marks
use Rattle.mark.specs.Mark.{Number, mark_call, return_call}
use Rattle.meaning.specs.Value.{Env}
use Rattle.meaning.specs.Book.{Action, request, retain, mark, return_to, guards, Book, blank, remembers, put_back, forgets, drops_all, History, act, play, Unmarked}
use Rattle.meaning.specs.Marks.{regions_of, Spares, play_on, AllSparing}
use Rattle.meaning.proofs.Demand3.{whole}
use Rattle.meaning.proofs.Returned.{mark-number}

-- book b stands for mark n
abbrev Has : ℕ → Book → List Book → Type 0
Has n b bs = (n < length bs) × (get_or bs n blank ≡ b)

module _ (n : ℕ) (b : Book) where
  -- a later mark
  on_mark : (a : Number) (c : Book) (bs : List Book) → Has n b bs → Has n b (remembers a c bs)
  on_mark (marks.number k) c bs h =
      (omega (arith, h.0, length-append bs (c ∷ [])), get_or-append bs (c ∷ []) blank n h.0 ∙ h.1)
  on_mark (marks.refused r) c bs h = h

  -- a return to it or to a later one
  on_return : (a : Response) (k : ℕ) (bs : List Book) → (a ≡ calls.done → n ≤ k) → Has n b bs → Has n b (forgets a k bs)
  on_return (calls.id i) k bs p h = h
  on_return calls.nothing k bs p h = h
  on_return calls.done k bs p h =
      let l = p refl in
      (omega (arith, h.0, length-take (suc k) bs), get_or-take (suc k) bs n blank (omega arith) ∙ h.1)
  on_return (calls.refused r) k bs p h = h

  -- a retain that is refused
  on_retain : (o : retaining.Outcome) (bs : List Book) → ((k : ℕ) → o ≡ retaining.kept k → ⊥) → Has n b bs → Has n b (drops_all o bs)
  on_retain (retaining.kept k) bs p h = absurd (p k refl)
  on_retain (retaining.refused r) bs p h = h

  on_act : (ρ : Env) (a : Action) (h : History) → Spares n (regions_of h) a → Has n b h.books → Has n b (act ρ a h).books
  on_act ρ (request q) h s k = k
  on_act ρ (retain keep mapping) h s k = on_retain (marks.retain_call h.now.graph h.marks keep mapping).retention.outcome h.books s k
  on_act ρ (guards cs es) h s k = k
  on_act ρ mark h s k = on_mark (mark_call h.now.graph h.marks).answer h.now.book h.books k
  on_act ρ (return_to j) h s k = on_return (return_call h.now.graph h.marks j).answer j h.books s k

  on_all : (ρ : Env) (h : History) → Has n b h.books → (list : List Action) → AllSparing ρ n h list → Has n b (play_on ρ list h).books
  on_all ρ h k [] s = k
  on_all ρ h k (a ∷ before) s = on_act ρ a (play_on ρ before h) s.1 (on_all ρ h k before s.0)

module _ (ρ : Env) (m : List ℕ) (None : Unmarked m) (before : List Action) (n : ℕ) where
  abbrev start : History
  start = play ρ m before

  -- right after the mark
  set : (mark_call start.now.graph start.marks).answer ≡ marks.number n → Has n start.now.book (act ρ mark start).books
  set e =
      let q : n ≡ length start.books + 0 = omega (arith, (mark-number start.now.graph start.marks n e).2, (whole ρ m None before).standing) in
      rw e (
        omega (arith, q, length-append start.books (start.now.book ∷ [])),
        ap (λ (j : ℕ). get_or (start.books ++ (start.now.book ∷ [])) j blank) q ∙ get_or-append-add start.books (start.now.book ∷ []) 0 blank,
      )

  -- a return that isn't refused puts lines and conditions back
  pub book-returned : (mark_call (play ρ m before).now.graph (play ρ m before).marks).answer ≡ marks.number n
      → (list : List Action) → AllSparing ρ n (act ρ mark (play ρ m before)) list
      → (h : History) → h ≡ play_on ρ list (act ρ mark (play ρ m before)) → (return_call h.now.graph h.marks n).answer ≡ calls.done
      → (act ρ (return_to n) h).now.book ≡ (play ρ m before).now.book
  book-returned e list s h p q =
      let k = on_all n start.now.book ρ (act ρ mark start) (set e) list s in
      ap (λ (a : Response). put_back a n h.books h.now.book) q
      ∙ ap (λ (x : History). get_or x.books n blank) p
      ∙ k.1
