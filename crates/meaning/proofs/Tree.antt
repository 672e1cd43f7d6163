-- A good program, run by sound calls, ends well: one clause for each step. So builders are sound if every plan is good. Assumes nothing.
use mathlib.Core.Path.{◌≡◌}
use mathlib.Core.Bool.{true}
use mathlib.Core.List.{List}
use Rattle.std.specs.Prelude.{Option}
use Prim.Native.Nat.{ℕ, zero, suc, ◌≤◌, ◌<◌}
use Rattle.range.specs.declared.ScalarType.{ScalarType}
use Rattle.range.specs.declared.ScalarType.TheVariants as ty
use Rattle.evaluate.specs.Operator.{type_width, unary_width}
use Rattle.graph.specs.Layout.{count_of}
use Rattle.graph.specs.Node.{type_at}
use Rattle.graph.specs.Insert.{Reply, id, nothing, room, units, inserted}
use Rattle.build.specs.Build.{Call, identity, unary, modular, binary, slice, concat, Out, out, Prog, give, add, call, tries, step, on_id, on_out, on_none, exec, run, build}
use Rattle.request.specs.Typing.{unary_typed, concat_typed}
use Rattle.meaning.specs.Value.{valued, and_then, unary_means, binary_means, slice_means, concat_means}
use Rattle.meaning.proofs.Worlds.{World, operation_means, operand, value}
use Rattle.meaning.proofs.Invariant.{stored_typed, Inv, Storable, Kept, kept_refl, kept_trans, Found, Answered, insert_good}

-- ---- what a builder's call is to mean

-- its type
abbrev pub type_of : Call → ScalarType
type_of (identity t v) = t
type_of (unary t o v) = t
type_of (modular v w) = ty.Bits w
type_of (binary t o l r) = t
type_of (slice v o w) = ty.Bits w
type_of (concat h l v w) = ty.Bits w

-- its value, by those of its operands; identity and modular give the value at another type
abbrev pub meaning : (ℕ → Option ℕ) → Call → Option ℕ
meaning look (identity t v) = and_then (look v) (valued t)
meaning look (unary t o v) = unary_means t o (look v)
meaning look (modular v w) = and_then (look v) (valued (ty.Bits w))
meaning look (binary t o l r) = binary_means t o (look l) (look r)
meaning look (slice v o w) = slice_means (ty.Bits w) o (look v)
meaning look (concat h l v w) = concat_means (ty.Bits w) v (look h) (look l)

-- widths at most 128, ids that are there, and the typing table as stored nodes keep it
abbrev pub Callable : List ℕ → Call → Type 0
Callable g (identity t v) = (type_width t ≤ 128) × (v < count_of g)
Callable g (unary t o v) = (type_width t ≤ 128) × (unary_width o ≤ 128) × (v < count_of g) × (unary_typed o (type_at g v) t ≡ true)
Callable g (modular v w) = (w ≤ 128) × (v < count_of g)
Callable g (binary t o l r) = (type_width t ≤ 128) × (l < count_of g) × (r < count_of g) × (stored_typed o (type_at g l) (type_at g r) t ≡ true)
Callable g (slice v o w) = (w ≤ 128) × (v < count_of g)
Callable g (concat h l v w) = (v ≤ 128) × (w ≤ 128) × (h < count_of g) × (l < count_of g) × (concat_typed (type_at g h) (type_at g l) v w ≡ true)

-- what is to hold of an outcome
abbrev pub Ends : World → List ℕ → ScalarType → Option ℕ → Out → Type 0
Ends ρ g t w (out a u h) = Answered ρ g t w a h

-- a builder whose every answer is its call's meaning
abbrev pub Sound : World → (Call → ℕ → List ℕ → Out) → Type 0
Sound ρ f = (c : Call) (u : ℕ) (g : List ℕ) → Inv ρ g → Callable g c → Ends ρ g (type_of c) (meaning (value ρ g) c) (f c u g)

-- ---- good programs for type t and value w

module _ (ρ : World) (t : ScalarType) (w : Option ℕ) where
  -- an answer
  abbrev pub Gives : Reply → List ℕ → Type 0
  Gives (id n) g = Found ρ t w n g
  Gives nothing g = Unit {0}
  Gives room g = Unit {0}
  Gives units g = Unit {0}

  -- a program that stands at g
  abbrev pub Good : Prog → List ℕ → Type 0
  Good (give a) g = Gives a g
  Good (add s r o k) g =
      Storable ρ g s r o × ((n : ℕ) (h : List ℕ) → Kept ρ g h → Found ρ s (operation_means ρ s o (operand ρ g)) n h → Good (k n) h)
  Good (call c k) g = Callable g c × ((n : ℕ) (h : List ℕ) → Kept ρ g h → Found ρ (type_of c) (meaning (value ρ g) c) n h → Good (k n) h)
  Good (tries p k) g = Good p g × ((h : List ℕ) → Kept ρ g h → Good (k h) h)

  module _ (f : Call → ℕ → List ℕ → Out) (s : Sound ρ f) where
    gives_ends : (a : Reply) (u : ℕ) (g : List ℕ) → Inv ρ g → Gives a g → Ends ρ g t w (out a u g)
    gives_ends (id n) u g i d = (kept_refl i, d)
    gives_ends nothing u g i d = kept_refl i
    gives_ends room u g i d = kept_refl i
    gives_ends units u g i d = kept_refl i

    -- an outcome of a graph that came before
    since : (g h : List ℕ) (o : Out) → Kept ρ g h → Ends ρ h t w o → Ends ρ g t w o
    since g h (out (id n) u k) a b = (kept_trans a b.0, b.1)
    since g h (out nothing u k) a b = kept_trans a b
    since g h (out room u k) a b = kept_trans a b
    since g h (out units u k) a b = kept_trans a b

    on_id_lem : (g h : List ℕ) (t' : ScalarType) (w' : Option ℕ) (a : Reply) (u : ℕ) (k : ℕ → ℕ → List ℕ → Out) → Answered ρ g t' w' a h
        → ((n v : ℕ) → Kept ρ g h → Found ρ t' w' n h → Ends ρ g t w (k n v h)) → Ends ρ g t w (on_id a u h k)
    on_id_lem g h t' w' (id n) u k a r = r n u a.0 a.1
    on_id_lem g h t' w' nothing u k a r = a
    on_id_lem g h t' w' room u k a r = a
    on_id_lem g h t' w' units u k a r = a

    on_out_lem : (g : List ℕ) (t' : ScalarType) (w' : Option ℕ) (o : Out) (k : ℕ → ℕ → List ℕ → Out) → Ends ρ g t' w' o
        → ((n v : ℕ) (h : List ℕ) → Kept ρ g h → Found ρ t' w' n h → Ends ρ g t w (k n v h)) → Ends ρ g t w (on_out o k)
    on_out_lem g t' w' (out a u h) k e r = on_id_lem g h t' w' a u k e (λ n v. r n v h)

    on_none_lem : (g : List ℕ) (o : Out) (k : ℕ → List ℕ → Out) → Ends ρ g t w o → ((v : ℕ) (h : List ℕ) → Kept ρ g h → Ends ρ g t w (k v h))
        → Ends ρ g t w (on_none o k)
    on_none_lem g (out (id n) u h) k e r = e
    on_none_lem g (out nothing u h) k e r = r u h e
    on_none_lem g (out room u h) k e r = e
    on_none_lem g (out units u h) k e r = e

    pub exec-ends : (p : Prog) (u : ℕ) (g : List ℕ) → Inv ρ g → Good p g → Ends ρ g t w (exec f p u g)
    exec-ends (give a) u g i d = gives_ends a u g i d
    exec-ends (add t' r o k) u g i d =
        on_id_lem g (inserted g t' r o).words t' (operation_means ρ t' o (operand ρ g)) (inserted g t' r o).answer u (λ n v h. exec f (k n) v h)
        (insert_good ρ g t' r o i d.0)
        (λ n v a b. since g (inserted g t' r o).words (exec f (k n) v (inserted g t' r o).words) a (exec-ends (k n) v (inserted g t' r o).words a.inv (d.1 n (inserted g t' r o).words a b)))
    exec-ends (call c k) u g i d =
        on_out_lem g (type_of c) (meaning (value ρ g) c) (f c u g) (λ n v h. exec f (k n) v h) (s c u g i d.0)
        (λ n v h a b. since g h (exec f (k n) v h) a (exec-ends (k n) v h a.inv (d.1 n h a b)))
    exec-ends (tries p k) u g i d =
        on_none_lem g (exec f p u g) (λ v h. exec f (k h) v h) (exec-ends p u g i d.0)
        (λ v h a. since g h (exec f (k h) v h) a (exec-ends (k h) v h a.inv (d.1 h a)))

-- ---- where every plan is good, every builder is sound, by induction on the units

module _ (ρ : World) (plans : (c : Call) (g : List ℕ) → Inv ρ g → Callable g c → Good ρ (type_of c) (meaning (value ρ g) c) (step c g) g) where
  run_sound : (t : ℕ) → Sound ρ (run t)
  unfolding run
  run_sound zero c u g i d = kept_refl i
  run_sound (suc t) c zero g i d = kept_refl i
  run_sound (suc t) c (suc u) g i d = exec-ends ρ (type_of c) (meaning (value ρ g) c) (run t) (run_sound t) (step c g) u g i (plans c g i d)

  pub build_sound : Sound ρ build
  unfolding build
  build_sound c u g i d = run_sound u c u g i d
