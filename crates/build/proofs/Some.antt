-- slice and concat always answer a node, or are refused: the source's `expect` and its plain return types are right.
use Prim.Native.Nat.{ℕ, zero, suc, ◌+◌, ◌-◌}
use mathlib.Core.Path.{◌≡◌, refl, ap, ◌∙◌}
use mathlib.Core.Bool.{Bool, true, false, cond, false≢true, ◌&&◌, ◌||◌}
use mathlib.Core.List.{List}
use Rattle.std.specs.Prelude.{Option, None, Some, Result, Ok, Err}
use lib.Dec.{eqb, ltb, leb}
use Rattle.word.specs.Value.{residue}
use Rattle.word.specs.Option.{only, provided, given}
use Rattle.range.specs.Interval.{Interval, nonnegative, inside_bits, type_interval}
use Rattle.range.specs.declared.ScalarType.{ScalarType}
use Rattle.range.specs.declared.ScalarType.TheVariants as ty
use Rattle.range.proofs.Sound.{tests}
use Rattle.evaluate.specs.declared.Unary.TheVariants as un
use Rattle.evaluate.specs.declared.Binary.TheVariants as bi
use Rattle.evaluate.specs.Evaluate.{reduced}
use Rattle.graph.specs.Layout.{LIMIT, count_of}
use Rattle.graph.specs.Node as node
use Rattle.graph.specs.Node.{Op, words_of, type_at, range_at, operation_at}
use Rattle.graph.specs.Insert.{Reply, id, nothing, room, units, Made, literal, built_of, resolve, interned, appended, found_or, inserted, constant, constant_interval}
use Rattle.graph.specs.declared.Unbuilt.{Unbuilt}
use Rattle.graph.specs.declared.Unbuilt.TheVariants as unbuilt
use Rattle.graph.specs.declared.NodeId.{NodeId}
use Rattle.fold.specs.Shape.{same_type, fits}
use Rattle.plan.specs.Plan as plan
use Rattle.plan.specs.Plan.{Plan}
use Rattle.build.specs.Rest.{rest_plan}
use Rattle.plan.specs.OneOperand.{identity_plan}
use Rattle.bitfield.specs.Bitfield.{above, Field, fold_bitfield_concat}
use Rattle.plan_slice.specs.Slice.{lowered, bounded_plan, new_slice, slice_operation, slice_part, slice_plan, slice_first, concat_plan, cut_of, adjacent, Cut, joined, joined_plan, field_plan, concat_field, concat_open, concat_first}
use Rattle.build.specs.Build.{Call, identity, slice, concat, Out, out, Prog, add, call, tries, answer, tail, constant_then, plan_prog, first_prog, attempt_prog, on_id, on_out, on_none, exec, run, build}
use Rattle.build.proofs.Laws.{reply}

-- no None
abbrev pub IsSome : Reply → Type 0
IsSome (id n) = Unit {0}
IsSome nothing = ⊥
IsSome room = Unit {0}
IsSome units = Unit {0}

appended-some : (g ws : List ℕ) → IsSome (appended g ws).answer
unfolding appended
appended-some g ws = by (ltb (count_of g) LIMIT) _ _ tt tt
  where
    by : (t : Bool) (a b : Made) → IsSome a.answer → IsSome b.answer → IsSome (cond t a b).answer
    by true a b p q = p
    by false a b p q = q

-- an insertion answers a node or finds no room
pub inserted-some : (g : List ℕ) (t : ScalarType) (r : Option Interval) (o : Op) → IsSome (inserted g t r o).answer
unfolding inserted
inserted-some g t r o = by (interned g o (words_of t r o))
  where
    by : (x : Option ℕ) → IsSome (found_or g x (appended g (words_of t r o))).answer
    by None = appended-some g (words_of t r o)
    by (Some n) = tt

-- so does a constant
pub constant_answers : (g : List ℕ) (t : ScalarType) (v : ℕ) → IsSome (constant g t v).answer
unfolding constant
constant_answers g t v = inserted-some g t (constant_interval t (reduced t v)) (node.constant (reduced t v))

-- where no node is answered and not None, a program that is tried ends, and its builder with it
pub masked-stop : (b : Result NodeId Unbuilt) (u : ℕ) (g : List ℕ) (k : ℕ → ℕ → List ℕ → Out) (j : ℕ → List ℕ → Out) → ((x : NodeId) → b ≡ Ok x → ⊥) → IsSome (built_of b) →
    on_none (on_id (built_of b) u g k) j ≡ out (built_of b) u g
masked-stop (Ok x) u g k j h s = absurd (h x refl)
masked-stop (Err unbuilt.None) u g k j h s = elim s [ ]
masked-stop (Err unbuilt.Room) u g k j h s = refl
masked-stop (Err unbuilt.Units) u g k j h s = refl

on_id-some : (a : Reply) (u : ℕ) (g : List ℕ) (k : ℕ → ℕ → List ℕ → Out) → IsSome a → ((n v : ℕ) (h : List ℕ) → IsSome (reply (k n v h))) → IsSome (reply (on_id a u g k))
on_id-some (id n) u g k s f = f n u g
on_id-some nothing u g k s f = elim s [ ]
on_id-some room u g k s f = tt
on_id-some units u g k s f = tt

on_out-some : (o : Out) (k : ℕ → ℕ → List ℕ → Out) → IsSome (reply o) → ((n v : ℕ) (h : List ℕ) → IsSome (reply (k n v h))) → IsSome (reply (on_out o k))
on_out-some (out a u g) k s f = on_id-some a u g k s f

-- after a fold that came to None the rest answers
on_none-some : (o : Out) (k : ℕ → List ℕ → Out) → ((v : ℕ) (h : List ℕ) → IsSome (reply (k v h))) → IsSome (reply (on_none o k))
on_none-some (out (id n) u g) k f = tt
on_none-some (out nothing u g) k f = f u g
on_none-some (out room u g) k f = tt
on_none-some (out units u g) k f = tt

-- ---- programs

module _ (f : Call → ℕ → List ℕ → Out) where
  added_some : (t : ScalarType) (r : Option Interval) (o : Op) (u : ℕ) (g : List ℕ) → IsSome (reply (exec f (add t r o answer) u g))
  added_some t r o u g =
      on_id-some (inserted g t r o).answer u (inserted g t r o).words (λ n v h. exec f (answer n) v h) (inserted-some g t r o) (λ n v h. tt)

  constant-some : (t : ScalarType) (v u : ℕ) (g : List ℕ) → IsSome (reply (exec f (constant_then t v answer) u g))
  constant-some t v u g = added_some t (constant_interval t (reduced t v)) (node.constant (reduced t v)) u g

  call-some : (c : Call) (k : ℕ → Prog) (u : ℕ) (g : List ℕ) → IsSome (reply (f c u g)) → ((n v : ℕ) (h : List ℕ) → IsSome (reply (exec f (k n) v h)))
      → IsSome (reply (exec f (call c k) u g))
  call-some c k u g s q = on_out-some (f c u g) (λ n v h. exec f (k n) v h) s q

  tail-some : (c : Call) (u : ℕ) (g : List ℕ) → IsSome (reply (f c u g)) → IsSome (reply (exec f (tail c) u g))
  tail-some c u g s = call-some c answer u g s (λ n v h. tt)

  tries-some : (p : Prog) (k : List ℕ → Prog) (u : ℕ) (g : List ℕ) → ((v : ℕ) (h : List ℕ) → IsSome (reply (exec f (k h) v h)))
      → IsSome (reply (exec f (tries p k) u g))
  tries-some p k u g q = on_none-some (exec f p u g) (λ v h. exec f (k h) v h) q

-- a plan that can't come to None on the region g: identity where the value's range fits
abbrev Sure : List ℕ → Plan → Type 0
Sure g (plan.give n) = Unit {0}
Sure g plan.stop = ⊥
Sure g (plan.constant t v) = Unit {0}
Sure g (plan.add t r o) = Unit {0}
Sure g (plan.identity ty.Bool n) = ⊥
Sure g (plan.identity (ty.Bits w) n) = fits w (range_at g n) ≡ true
Sure g (plan.identity ty.Integer n) = ⊥
Sure g (plan.unary t o n) = ⊥
Sure g (plan.binary t o l r) = ⊥
Sure g (plan.slice n o w) = Unit {0}
Sure g (plan.slice_identity n o w t) = ⊥
Sure g (plan.slice_shift n w t v) = ⊥
Sure g (plan.constant_binary s v t o n) = ⊥
Sure g (plan.and_or t n m v) = ⊥
Sure g (plan.truncated w o l r) = ⊥
Sure g (plan.split_concat l o v h u w) = Unit {0}

-- ---- slice

either : (g : List ℕ) (t : Bool) (p q : Plan) → Sure g p → Sure g q → Sure g (cond t p q)
either g true p q a b = a
either g false p q a b = b

operation_sure : (g : List ℕ) (o : Op) (v p w : ℕ) → Sure g (slice_operation o v p w)
operation_sure g (node.constant c) v p w = tt
operation_sure g (node.input i) v p w = tt
operation_sure g (node.refine i) v p w = tt
operation_sure g (node.effect i) v p w = tt
operation_sure g (node.slice i q u) v p w = either g (leb (p + w) u) (plan.slice i (q + p) w) (new_slice v p w) tt tt
operation_sure g (node.concat i j u) v p w =
    either g (leb u p) (plan.slice i (p - u) w) _ tt (either g (leb (p + w) u) (plan.slice j p w) (plan.split_concat j p (u - p) i (w - (u - p)) w) tt tt)
operation_sure g (node.unary u i) v p w = tt
operation_sure g (node.binary b i j) v p w = tt

part_sure : (g : List ℕ) (v o w : ℕ) → Sure g (slice_part g v o w)
part_sure g v o w =
    either g (leb 128 o || above (type_at g v) o) (plan.constant (ty.Bits w) 0) _ tt
    (either g (eqb o 0 && same_type (type_at g v) (ty.Bits w)) (plan.give v) (slice_operation (operation_at g v) v o w) tt
    (operation_sure g (operation_at g v) v o w))

plan_sure : (g : List ℕ) (v o w : ℕ) → Sure g (slice_plan g v o w)
unfolding slice_plan
plan_sure g v o w = by (range_at g v) refl
  where
    choose : (x y z : Bool) → (z ≡ true → fits w (range_at g v) ≡ true)
        → Sure g (given (provided x (cond y (Some (plan.constant (ty.Bits w) 0)) (only z (plan.identity (ty.Bits w) v)))) (λ p. p) (slice_part g v o w))
    choose false y z f = part_sure g v o w
    choose true true z f = tt
    choose true false true f = f refl
    choose true false false f = part_sure g v o w

    by : (r : Option Interval) → range_at g v ≡ r → Sure g (given (bounded_plan r v o w) (λ p. p) (slice_part g v o w))
    by None e = part_sure g v o w
    by (Some a) e =
        choose (nonnegative a) (eqb (lowered (residue 128 a.high) o) 0) (eqb o 0 && inside_bits w a)
        (λ q. ap (fits w) e ∙ (tests (eqb o 0) (inside_bits w a) q).1)

-- ---- by the fuel

-- identity of a value that fits answers
identity-some : (t : ℕ) (w n u : ℕ) (g : List ℕ) → fits w (range_at g n) ≡ true → IsSome (reply (run t (identity (ty.Bits w) n) u g))
unfolding run identity_plan
identity-some zero w n u g e = tt
identity-some (suc t) w n zero g e = tt
identity-some (suc t) w n (suc u) g e = by (same_type (type_at g n) (ty.Bits w)) (fits w (range_at g n)) e
  where
    by : (x y : Bool) → y ≡ true
        → IsSome (reply (exec (run t) (plan_prog (cond x (plan.give n) (cond y (plan.add (ty.Bits w) (range_at g n) (node.refine n)) (plan.unary (ty.Bits w) (un.Truncate w) n)))) u g))
    by true y q = tt
    by false true q = added_some (run t) (ty.Bits w) (range_at g n) (node.refine n) u g
    by false false q = absurd (false≢true q)

module _ (t : ℕ) (slices : (v o w u : ℕ) (g : List ℕ) → IsSome (reply (run t (slice v o w) u g)))
    (concats : (h l v w u : ℕ) (g : List ℕ) → IsSome (reply (run t (concat h l v w) u g))) where
  sure_some : (p : Plan) (u : ℕ) (g : List ℕ) → Sure g p → IsSome (reply (exec (run t) (plan_prog p) u g))
  sure_some (plan.give n) u g s = tt
  sure_some (plan.constant k v) u g s = constant-some (run t) k v u g
  sure_some (plan.add k r o) u g s = added_some (run t) k r o u g
  sure_some (plan.identity (ty.Bits w) n) u g s = tail-some (run t) (identity (ty.Bits w) n) u g (identity-some t w n u g s)
  sure_some (plan.slice n o w) u g s = tail-some (run t) (slice n o w) u g (slices n o w u g)
  sure_some (plan.split_concat l o v h x w) u g s =
      call-some (run t) (slice l o v) (λ a. call (slice h 0 x) (λ b. tail (concat b a v w))) u g (slices l o v u g)
      (λ a i j. call-some (run t) (slice h 0 x) (λ b. tail (concat b a v w)) i j (slices h 0 x i j)
      (λ b p q. tail-some (run t) (concat b a v w) p q (concats b a v w p q)))
  sure_some plan.stop u g s = absurd s
  sure_some (plan.identity ty.Bool n) u g s = absurd s
  sure_some (plan.identity ty.Integer n) u g s = absurd s
  sure_some (plan.unary k o n) u g s = absurd s
  sure_some (plan.binary k o l r) u g s = absurd s
  sure_some (plan.slice_identity n o w k) u g s = absurd s
  sure_some (plan.slice_shift n w k v) u g s = absurd s
  sure_some (plan.constant_binary k v q o n) u g s = absurd s
  sure_some (plan.and_or k n m v) u g s = absurd s
  sure_some (plan.truncated w o l r) u g s = absurd s

  slice_first_lem : (v o w u : ℕ) (g : List ℕ) → IsSome (reply (exec (run t) (first_prog (slice_first g v o w)) u g))
  unfolding slice_first rest_plan
  slice_first_lem v o w u g = by (literal g v) (eqb o 0)
    where
      by : (c : Option ℕ) (z : Bool)
          → IsSome (reply (exec (run t) (first_prog (given c (λ k. plan.does (plan.constant (ty.Bits w) (lowered k o))) (cond z (plan.tries (plan.modular v w) (plan.slice_rest v o w)) (plan.does (slice_plan g v o w))))) u g))
      by (Some k) z = sure_some (plan.constant (ty.Bits w) (lowered k o)) u g tt
      by None true =
          tries-some (run t) (attempt_prog (plan.modular v w)) (λ h. plan_prog (slice_plan h v o w)) u g
          (λ i h. sure_some (slice_plan h v o w) i h (plan_sure h v o w))
      by None false = sure_some (slice_plan g v o w) u g (plan_sure g v o w)

  concat-node : (h l v w u : ℕ) (g : List ℕ) → IsSome (reply (exec (run t) (plan_prog (concat_plan h l v w)) u g))
  unfolding concat_plan
  concat-node h l v w u g = added_some (run t) (ty.Bits w) (type_interval (ty.Bits w)) (node.concat h l v) u g

  field-some : (g : List ℕ) (h l v w u : ℕ) (f : Field) → IsSome (reply (exec (run t) (first_prog (field_plan g h l v w f)) u g))
  unfolding rest_plan
  field-some g h l v w u f = by f.base
    where
      choose : (b : ℕ) (z : Bool)
          → IsSome (reply (exec (run t) (first_prog (cond z (plan.tries (plan.masked (record { type = ty.Bits w; base = b; mask = f.keep; result = ty.Bits w; op = bi.Or; literal = f.literal })) (plan.concat_rest h l v w)) (plan.does (concat_plan h l v w)))) u g))
      choose b true =
          tries-some (run t)
          (attempt_prog (plan.masked (record { type = ty.Bits w; base = b; mask = f.keep; result = ty.Bits w; op = bi.Or; literal = f.literal })))
          (λ j. plan_prog (concat_plan h l v w)) u g (λ i j. concat-node h l v w i j)
      choose b false = concat-node h l v w u g

      by : (b : Option ℕ)
          → IsSome (reply (exec (run t) (first_prog (given b (λ n. cond (same_type (type_at g n) (ty.Bits w)) (plan.tries (plan.masked (record { type = ty.Bits w; base = n; mask = f.keep; result = ty.Bits w; op = bi.Or; literal = f.literal })) (plan.concat_rest h l v w)) (plan.does (concat_plan h l v w))) (plan.does (plan.constant (ty.Bits w) f.literal)))) u g))
      by None = sure_some (plan.constant (ty.Bits w) f.literal) u g tt
      by (Some b) = choose b (same_type (type_at g b) (ty.Bits w))

  bits_some : (g : List ℕ) (h l v w u : ℕ) → IsSome (reply (exec (run t) (first_prog (concat_field g h l v w)) u g))
  bits_some g h l v w u = by (fold_bitfield_concat g h l v w)
    where
      by : (f : Option Field) → IsSome (reply (exec (run t) (first_prog (given f (field_plan g h l v w) (plan.does (concat_plan h l v w)))) u g))
      by None = concat-node h l v w u g
      by (Some f) = field-some g h l v w u f

  open_some : (g : List ℕ) (h l v w u : ℕ) → IsSome (reply (exec (run t) (first_prog (concat_open g h l v w)) u g))
  open_some g h l v w u = by (cut_of (operation_at g h)) (cut_of (operation_at g l))
    where
      choose : (a b : Cut) (z : Bool)
          → IsSome (reply (exec (run t) (first_prog (given (only z (plan.slice a.value b.offset w)) plan.does (concat_field g h l v w))) u g))
      choose a b true = sure_some (plan.slice a.value b.offset w) u g tt
      choose a b false = bits_some g h l v w u

      by : (a b : Option Cut) → IsSome (reply (exec (run t) (first_prog (given (adjacent a b v w) plan.does (concat_field g h l v w))) u g))
      by None b = bits_some g h l v w u
      by (Some a) None = bits_some g h l v w u
      by (Some a) (Some b) = choose a b (eqb a.value b.value && eqb a.offset (b.offset + v))

  concat_first_lem : (h l v w u : ℕ) (g : List ℕ) → IsSome (reply (exec (run t) (first_prog (concat_first g h l v w)) u g))
  unfolding concat_first
  concat_first_lem h l v w u g = by (eqb w v) (eqb v 0) (literal g h) (literal g l)
    where
      by : (x y : Bool) (a b : Option ℕ)
          → IsSome (reply (exec (run t) (first_prog (cond x (plan.does (plan.slice l 0 w)) (cond y (plan.does (plan.slice h 0 w)) (given (joined_plan a b v w) plan.does (concat_open g h l v w))))) u g))
      by true y a b = sure_some (plan.slice l 0 w) u g tt
      by false true a b = sure_some (plan.slice h 0 w) u g tt
      by false false None b = open_some g h l v w u
      by false false (Some a) None = open_some g h l v w u
      by false false (Some a) (Some b) = constant-some (run t) (ty.Bits w) (joined a b v) u g

abbrev Slices : ℕ → Type 0
Slices t = (v o w u : ℕ) (g : List ℕ) → IsSome (reply (run t (slice v o w) u g))

abbrev Concats : ℕ → Type 0
Concats t = (h l v w u : ℕ) (g : List ℕ) → IsSome (reply (run t (concat h l v w) u g))

slices_on : (t : ℕ) → Slices t → Concats t → Slices (suc t)
unfolding run
slices_on t s c v o w zero g = tt
slices_on t s c v o w (suc u) g = slice_first_lem t s c (resolve g v) o w u g

concats_on : (t : ℕ) → Slices t → Concats t → Concats (suc t)
unfolding run
concats_on t s c h l v w zero g = tt
concats_on t s c h l v w (suc u) g = concat_first_lem t s c (resolve g h) (resolve g l) v w u g

runs-some : (t : ℕ) → Slices t × Concats t
unfolding run
runs-some zero = (λ v o w u g. tt, λ h l v w u g. tt)
runs-some (suc t) = (slices_on t (runs-some t).0 (runs-some t).1, concats_on t (runs-some t).0 (runs-some t).1)

-- slice never answers None
pub slice-some : (v o w u : ℕ) (g : List ℕ) → IsSome (reply (build (slice v o w) u g))
unfolding build
slice-some v o w u g = (runs-some u).0 v o w u g

-- concat never answers None
pub concat-some : (h l v w u : ℕ) (g : List ℕ) → IsSome (reply (build (concat h l v w) u g))
unfolding build
concat-some h l v w u g = (runs-some u).1 h l v w u g
