-- What each step of a guard keeps, the guard keeps; and on every region it keeps the keys of the nodes that were there. Assumes nothing.
use mathlib.Core.Path.{◌≡◌, refl}
use mathlib.Core.Bool.{Bool, true, false, cond}
use mathlib.Core.List.{List}
use Rattle.std.specs.Prelude.{Option, None, Some}
use Prim.Native.Nat.{ℕ, zero, suc}
use Rattle.word.specs.Option.{given}
use Rattle.range.specs.Interval.{Interval}
use Rattle.graph.specs.Layout.{LIMIT}
use Rattle.graph.specs.Node as node
use Rattle.graph.specs.Node.{type_at, range_at}
use Rattle.graph.specs.Insert as insert
use Rattle.graph.specs.Insert.{Reply, resolve, inserted}
use Rattle.graph.proofs.Restored.{inserted_same, aliased_same}
use Rattle.graph.specs.Alias.{Same}
use Rattle.guard.specs.Condition.{behind_nots, Comparison, comparison_at}
use Rattle.assume.specs.Limits.{Limits, Pair, limited_to, meet, narrows, comparable, limits_by}
use Rattle.assume.specs.Refine.{Next, Outcome, unchanged, narrowed, full, assumed, alias_to, narrow, step, refine_step, go_on, refine_up_to, refined}
use Rattle.assume.specs.Assume.{then_refined, refined_both, assumed_by, assumed_of, assumed_guard}

-- ---- what each step keeps, all of them keep

-- P is what is kept, and N what the node of a step is to be
module _ (P : List ℕ → Type 0) (N : List ℕ → ℕ → Type 0)
    (keep : (h : List ℕ) (n : ℕ) (l : Limits) → P h → N h n → P (refine_step h (resolve h n) l).words)
    (on : (h : List ℕ) (n : ℕ) (l : Limits) → P h → N h n → (x : Next) → (refine_step h (resolve h n) l).next ≡ Some x
    → N (refine_step h (resolve h n) l).words x.node) where
  -- some steps
  some-keep : (k : ℕ) (so : Outcome) (h : List ℕ) (n : ℕ) (l : Limits) → P h → N h n → P (refine_up_to k so h n l).words
  some-keep zero so h n l p q = p
  some-keep (suc k) so h n l p q = by (refine_step h (resolve h n) l).outcome _ _ (keep h n l p q) (on h n l p q) (some-keep k narrowed)
    where
      by : (o : Outcome) (x : Option Next) (w : List ℕ) → P w → ((y : Next) → x ≡ Some y → N w y.node)
          → ((v : List ℕ) (m : ℕ) (j : Limits) → P v → N v m → P (refine_up_to k narrowed v m j).words) → P (go_on so o x w (refine_up_to k narrowed)).words
      by unchanged x w r t rest = r
      by full x w r t rest = r
      by narrowed None w r t rest = r
      by narrowed (Some y) w r t rest = rest w y.node (limited_to y.range) r (t y refl)

  -- the steps from one node
  pub refined_keeps : (so : Outcome) (h : List ℕ) (n : ℕ) (l : Limits) → P h → N h n → P (refined so h n l).words
  unfolding refined
  refined_keeps so h n l p q = some-keep LIMIT so h n l p q

  -- both operands, if they stay what they are to be
  both_keep : (g : List ℕ) (a b : ℕ) (p : Pair) → P g → ((h : List ℕ) → P h → N h a × N h b) → P (refined_both g a b p).words
  unfolding refined_both
  both_keep g a b p q t =
      let r = refined_keeps unchanged g a p.left q (t g q).0 in
      then (refined unchanged g a p.left).outcome _ b p.right r (t _ r).1
    where
      then : (o : Outcome) (h : List ℕ) (b : ℕ) (l : Limits) → P h → N h b → P (then_refined o h b l).words
      then unchanged h b l r t = refined_keeps unchanged h b l r t
      then narrowed h b l r t = refined_keeps narrowed h b l r t
      then full h b l r t = r

  -- a guard
  pub assumed_keeps : (g : List ℕ) (n : ℕ) (e : Bool) → P g
      → ((c : Comparison) → comparison_at g (behind_nots g n e).node ≡ Some c
      → (h : List ℕ) → P h → N h (resolve g c.left) × N h (resolve g c.right))
      → P (assumed_guard g n e).words
  unfolding assumed_guard assumed_of
  assumed_keeps g n e p q = by (comparison_at g (behind_nots g n e).node) q
    where
      d : Bool
      d = (behind_nots g n e).expected

      both : (c : Comparison) → ((h : List ℕ) → P h → N h (resolve g c.left) × N h (resolve g c.right)) → (x y : Option Interval)
          → P (assumed_by g d c.op (resolve g c.left) (resolve g c.right) x y).words
      both c t None y = p
      both c t (Some x) None = p
      both c t (Some x) (Some y) = test (comparable c.op x y)
        where
          test : (z : Bool)
              → P (cond z (refined_both g (resolve g c.left) (resolve g c.right) (limits_by c.op d x y)) (assumed unchanged g)).words
          test true = both_keep g (resolve g c.left) (resolve g c.right) (limits_by c.op d x y) p t
          test false = p

      by : (x : Option Comparison)
          → ((c : Comparison) → x ≡ Some c → (h : List ℕ) → P h → N h (resolve g c.left) × N h (resolve g c.right))
          → P (given x (assumed_of g d) (assumed unchanged g)).words
      by None t = p
      by (Some c) t = both c (t c refl) (range_at g (resolve g c.left)) (range_at g (resolve g c.right))

-- ---- the keys

module _ {k : ℕ} {g h : List ℕ} (s : Same k g h) where
  -- one step keeps them
  step_same : (n : ℕ) (l : Limits) → Same k g (refine_step h n l).words
  unfolding refine_step
  step_same n l = by (range_at h n)
    where
      set : (a : Interval) (r : Reply) (w : List ℕ) → Same k g w → Same k g (alias_to n a r w).words
      set a (insert.id m) w q = aliased_same q n m
      set a insert.nothing w q = q
      set a insert.room w q = q
      set a insert.units w q = q

      test : (t : Bool) (a : Interval) → Same k g (cond t (narrow h n a) (step unchanged None h)).words
      test true a =
          set a (inserted h (type_at h n) (Some a) (node.refine n)).answer (inserted h (type_at h n) (Some a) (node.refine n)).words
          (inserted_same k g h (type_at h n) (Some a) (node.refine n) s)
      test false a = s

      by : (r : Option Interval)
          → Same k g (given r (λ old. cond (narrows (type_at h n) old (meet old l)) (narrow h n (meet old l)) (step unchanged None h)) (step unchanged None h)).words
      by None = s
      by (Some old) = test (narrows (type_at h n) old (meet old l)) (meet old l)

-- every node will do
abbrev Any : List ℕ → ℕ → Type 0
Any h n = Unit {0}

module _ {k : ℕ} {g h : List ℕ} (s : Same k g h) where
  -- both operands refined keep them
  pub both_same : (a b : ℕ) (p : Pair) → Same k g (refined_both h a b p).words
  both_same a b p = both_keep (Same k g) Any (λ w m j p q. step_same p (resolve w m) j) (λ w m j p q x z. tt) h a b p s (λ w p. (tt, tt))

  -- a guard keeps them
  pub assumed_same : (n : ℕ) (e : Bool) → Same k g (assumed_guard h n e).words
  assumed_same n e =
      assumed_keeps (Same k g) Any (λ w m j p q. step_same p (resolve w m) j) (λ w m j p q x z. tt) h n e s (λ c z w p. (tt, tt))
