-- Laws of programs, each proved once whatever the builders do: units fall, fuel does not matter, and what follows an answer.
use Prim.Native.Nat.{ℕ, zero, suc, ◌+◌, ◌-◌, ◌<◌, ◌≤◌, zero-le}
use mathlib.Core.Path.{◌≡◌, refl, sym, ap, ◌∙◌}
use mathlib.Core.Bool.{Bool, true, false, true≢false}
use mathlib.Core.List.{List}
use native.Mathlib.Nat.{le_refl, le_trans}
use native.Mathlib.Numerals.{sub-one}
use native.Mathlib.Omega.{arith}
use Rattle.word.specs.Value.{val}
use Rattle.range.specs.declared.ScalarType.{ScalarType}
use Rattle.range.specs.declared.ScalarType.TheVariants as ty
use Rattle.evaluate.specs.declared.Binary.TheVariants as bi
use Rattle.evaluate.specs.Evaluate.{reduced}
use Rattle.evaluate.specs.U128 as u128
use Rattle.graph.specs.Node as node
use Rattle.std.specs.Prelude.{Result, Ok, Err}
use Rattle.graph.specs.Insert.{Reply, id, nothing, room, units, built_of, inserted, constant, constant_interval}
use Rattle.graph.specs.declared.Unbuilt.{Unbuilt}
use Rattle.graph.specs.declared.Unbuilt.TheVariants as unbuilt
use Rattle.graph.specs.declared.NodeId.{NodeId}
use Rattle.build.specs.declared.step.MaskedNode.{MaskedNode}
use Rattle.build.specs.declared.step.Start.{Start}
use Rattle.build.specs.Step.{start_first, entered, masked_prog}
use Rattle.plan.specs.Plan.{is_stop}
use Rattle.plan.specs.OneOperand.{modular_plan}
use Rattle.plan.proofs.Laws.{is_stop_lem}
use Rattle.build.specs.Build.{Call, first_prog, modular, binary, range_prog, by_constant, Out, out, Prog, give, add, call, tries, tail, answer, constant_then, on_id, on_out, on_nothing, on_none, exec, run, build, step}

-- the units of an answer
abbrev pub left : Out → ℕ
left (out a u g) = u

-- the region of an answer
abbrev pub region : Out → List ℕ
region (out a u g) = g

-- the answer itself
abbrev pub reply : Out → Reply
reply (out a u g) = a

-- ---- the units never grow

-- no builder gives units back
abbrev Falls : (Call → ℕ → List ℕ → Out) → Type 0
Falls f = (c : Call) (u : ℕ) (g : List ℕ) → left (f c u g) ≤ u

on_id_falls : (a : Reply) (u b : ℕ) (g : List ℕ) (k : ℕ → ℕ → List ℕ → Out) → u ≤ b → ((n v : ℕ) (h : List ℕ) → left (k n v h) ≤ v) → left (on_id a u g k) ≤ b
on_id_falls (id n) u b g k l h = le_trans (h n u g) l
on_id_falls nothing u b g k l h = l
on_id_falls room u b g k l h = l
on_id_falls units u b g k l h = l

on_out_falls : (o : Out) (b : ℕ) (k : ℕ → ℕ → List ℕ → Out) → left o ≤ b → ((n v : ℕ) (h : List ℕ) → left (k n v h) ≤ v) → left (on_out o k) ≤ b
on_out_falls (out a u g) b k l h = on_id_falls a u b g k l h

on_nothing_falls : (a : Reply) (u b : ℕ) (g : List ℕ) (k : ℕ → List ℕ → Out) → u ≤ b → ((v : ℕ) (h : List ℕ) → left (k v h) ≤ v) → left (on_nothing a u g k) ≤ b
on_nothing_falls (id n) u b g k l h = l
on_nothing_falls nothing u b g k l h = le_trans (h u g) l
on_nothing_falls room u b g k l h = l
on_nothing_falls units u b g k l h = l

on_none_falls : (o : Out) (b : ℕ) (k : ℕ → List ℕ → Out) → left o ≤ b → ((v : ℕ) (h : List ℕ) → left (k v h) ≤ v) → left (on_none o k) ≤ b
on_none_falls (out a u g) b k l h = on_nothing_falls a u b g k l h

exec_falls : (f : Call → ℕ → List ℕ → Out) → Falls f → (p : Prog) (u : ℕ) (g : List ℕ) → left (exec f p u g) ≤ u
exec_falls f hf (give a) u g = le_refl u
exec_falls f hf (add t r o k) u g =
    on_id_falls (inserted g t r o).answer u u (inserted g t r o).words (λ n v h. exec f (k n) v h) (le_refl u) (λ n v h. exec_falls f hf (k n) v h)
exec_falls f hf (call c k) u g = on_out_falls (f c u g) u (λ n v h. exec f (k n) v h) (hf c u g) (λ n v h. exec_falls f hf (k n) v h)
exec_falls f hf (tries p k) u g =
    on_none_falls (exec f p u g) u (λ v h. exec f (k h) v h) (exec_falls f hf p u g) (λ v h. exec_falls f hf (k h) v h)

run_falls : (t : ℕ) → Falls (run t)
unfolding run
run_falls zero c u g = zero-le
run_falls (suc t) c zero g = zero-le
run_falls (suc t) c (suc u) g = le_trans (exec_falls (run t) (run_falls t) (step c g) u g) (omega arith)

-- ---- more fuel than units changes nothing

on_id_same : (a : Reply) (u b : ℕ) (g : List ℕ) (k j : ℕ → ℕ → List ℕ → Out) → u ≤ b → ((n v : ℕ) (h : List ℕ) → v ≤ b → k n v h ≡ j n v h) → on_id a u g k ≡ on_id a u g j
on_id_same (id n) u b g k j l h = h n u g l
on_id_same nothing u b g k j l h = refl
on_id_same room u b g k j l h = refl
on_id_same units u b g k j l h = refl

on_out_same : (o : Out) (b : ℕ) (k j : ℕ → ℕ → List ℕ → Out) → left o ≤ b → ((n v : ℕ) (h : List ℕ) → v ≤ b → k n v h ≡ j n v h) → on_out o k ≡ on_out o j
on_out_same (out a u g) b k j l h = on_id_same a u b g k j l h

on_nothing_same : (a : Reply) (u b : ℕ) (g : List ℕ) (k j : ℕ → List ℕ → Out) → u ≤ b → ((v : ℕ) (h : List ℕ) → v ≤ b → k v h ≡ j v h) → on_nothing a u g k ≡ on_nothing a u g j
on_nothing_same (id n) u b g k j l h = refl
on_nothing_same nothing u b g k j l h = h u g l
on_nothing_same room u b g k j l h = refl
on_nothing_same units u b g k j l h = refl

on_none_same : (o : Out) (b : ℕ) (k j : ℕ → List ℕ → Out) → left o ≤ b → ((v : ℕ) (h : List ℕ) → v ≤ b → k v h ≡ j v h) → on_none o k ≡ on_none o j
on_none_same (out a u g) b k j l h = on_nothing_same a u b g k j l h

exec_same : (f e : Call → ℕ → List ℕ → Out) (b : ℕ) → Falls f → ((c : Call) (u : ℕ) (g : List ℕ) → u ≤ b → f c u g ≡ e c u g) →
    (p : Prog) (u : ℕ) (g : List ℕ) → u ≤ b → exec f p u g ≡ exec e p u g
exec_same f e b hf q (give a) u g l = refl
exec_same f e b hf q (add t r o k) u g l =
    on_id_same (inserted g t r o).answer u b (inserted g t r o).words (λ n v h. exec f (k n) v h) (λ n v h. exec e (k n) v h) l
    (λ n v h m. exec_same f e b hf q (k n) v h m)
exec_same f e b hf q (call c k) u g l =
    on_out_same (f c u g) b (λ n v h. exec f (k n) v h) (λ n v h. exec e (k n) v h) (le_trans (hf c u g) l)
    (λ n v h m. exec_same f e b hf q (k n) v h m)
    ∙ ap (λ (o : Out). on_out o (λ n v h. exec e (k n) v h)) (q c u g l)
exec_same f e b hf q (tries p k) u g l =
    on_none_same (exec f p u g) b (λ v h. exec f (k h) v h) (λ v h. exec e (k h) v h) (le_trans (exec_falls f hf p u g) l)
    (λ v h m. exec_same f e b hf q (k h) v h m)
    ∙ ap (λ (o : Out). on_none o (λ v h. exec e (k h) v h)) (exec_same f e b hf q p u g l)

run_same : (t s : ℕ) (c : Call) (u : ℕ) (g : List ℕ) → u ≤ t → u ≤ s → run t c u g ≡ run s c u g
unfolding run
run_same zero zero c u g l m = refl
run_same zero (suc s) c zero g l m = refl
run_same zero (suc s) c (suc u) g l m = absurd (omega arith)
run_same (suc t) zero c zero g l m = refl
run_same (suc t) zero c (suc u) g l m = absurd (omega arith)
run_same (suc t) (suc s) c zero g l m = refl
run_same (suc t) (suc s) c (suc u) g l m =
    exec_same (run t) (run s) u (run_falls t) (λ d v h p. run_same t s d v h (omega arith) (omega arith)) (step c g) u g (le_refl u)

-- ---- the recursion of `build`, without the fuel

pub build-none : (c : Call) (u : ℕ) (g : List ℕ) → u ≡ 0 → build c u g ≡ out units 0 g
unfolding build run
build-none c zero g e = refl
build-none c (suc u) g e = absurd (omega arith)

pub build_step : (c : Call) (u : ℕ) (g : List ℕ) → (u ≡ 0 → ⊥) → build c u g ≡ exec build (step c g) (u - 1) g
unfolding build run
build_step c zero g e = absurd (e refl)
build_step c (suc u) g e =
    rw (sub-one) (exec_same (run u) build u (run_falls u) (λ d v h m. run_same u v d v h m (le_refl v)) (step c g) u g (le_refl u))

-- a builder is what is entered from its arguments
pub entered_is : (c : Call) (s : Start) (u : ℕ) (g : List ℕ) → step c g ≡ first_prog (start_first s g) → entered s u g ≡ build c u g
entered_is c s zero g e = sym (build-none c zero g refl)
entered_is c s (suc u) g e = sym (build_step c (suc u) g (λ q. omega (arith, q)) ∙ rw (sub-one, e))

build_falls : (c : Call) (u : ℕ) (g : List ℕ) → left (build c u g) ≤ u
unfolding build
build_falls c u g = run_falls u c u g

-- a builder's answer has no more units than it was given
pub units_fall : (c : Call) (u : ℕ) (g : List ℕ) {a : Reply} {v : ℕ} {h : List ℕ} → out a v h ≡ build c u g → v ≤ u
units_fall c u g e = rw (← ap left e) at (build_falls c u g)

-- is it None?
abbrev is_none : Reply → Bool
is_none (id n) = false
is_none nothing = true
is_none room = false
is_none units = false

-- a builder that is called and comes to None has spent a unit, whatever follows its id
none_falls_then : (c : Call) (k : ℕ → Prog) (u : ℕ) (g : List ℕ) {v : ℕ} {h : List ℕ} → out nothing v h ≡ exec build (call c k) u g → v < u
none_falls_then c k zero g e =
    absurd (true≢false (ap (λ (o : Out). is_none (reply o)) (e ∙ ap (λ (o : Out). on_out o (λ n w j. exec build (k n) w j)) (build-none c zero g refl))))
none_falls_then c k (suc u) g {v} e =
    let f : left (build c (suc u) g) ≤ u =
    rw (build_step c (suc u) g (λ q. omega (arith, q)), sub-one) (exec_falls build build_falls (step c g) u g) in
    let l : v ≤ u = rw (← ap left e) at (on_out_falls (build c (suc u) g) u (λ n w j. exec build (k n) w j) f (λ n w j. exec_falls build build_falls (k n) w j)) in
    omega (arith, l)

-- a masked operation that comes to None has spent one
pub masked_falls : (m : MaskedNode) (u : ℕ) (g : List ℕ) {v : ℕ} {h : List ℕ} → out nothing v h ≡ exec build (masked_prog m) u g → v < u
masked_falls m u g e =
    none_falls_then (binary m.ty bi.And m.base.0 m.mask.0) (λ a. by_constant m.ty (val m.literal) m.result m.op a) u g e

-- ---- what follows an answer

-- an id that is answered
pub on_id-tail : (a : Reply) (u : ℕ) (g : List ℕ) → on_id a u g (λ n v h. out (id n) v h) ≡ out a u g
on_id-tail (id n) u g = refl
on_id-tail nothing u g = refl
on_id-tail room u g = refl
on_id-tail units u g = refl

pub on_out-tail : (o : Out) → on_out o (λ n v h. out (id n) v h) ≡ o
on_out-tail (out a u g) = on_id-tail a u g

-- a builder that comes to None has spent a unit
pub none_falls : (c : Call) (u : ℕ) (g : List ℕ) {v : ℕ} {h : List ℕ} → out nothing v h ≡ build c u g → v < u
none_falls c u g e = none_falls_then c answer u g (e ∙ sym (on_out-tail (build c u g)))

-- ---- a truncation that is tried

-- without a unit
pub try_none : (v w u : ℕ) (k : List ℕ → Prog) (g : List ℕ) → u ≡ 0 → exec build (tries (tail (modular v w)) k) u g ≡ out units 0 g
try_none v w u k g e = rw (build-none (modular v w) u g e)

-- whose plan is None: the unit is spent
pub try_stop : (v w u n : ℕ) (k : List ℕ → Prog) (g : List ℕ) → u ≡ n + 1 → is_stop (modular_plan g v w) ≡ true
    → exec build (tries (tail (modular v w)) k) u g ≡ exec build (k g) n g
try_stop v w u n k g e s =
    let m : u - 1 ≡ n = omega (arith, e) in
    rw (build_step (modular v w) u g (λ z. omega (arith, e, z)), is_stop_lem (modular_plan g v w) s, m)

-- ---- what an answer is not

-- an answer that is no id ends a program: what the `else` of `let Ok(..) = .. else` knows
pub on_id-stop : (b : Result NodeId Unbuilt) (u : ℕ) (g : List ℕ) (k : ℕ → ℕ → List ℕ → Out) → ((x : NodeId) → b ≡ Ok x → ⊥) → on_id (built_of b) u g k ≡ out (built_of b) u g
on_id-stop (Ok x) u g k h = absurd (h x refl)
on_id-stop (Err unbuilt.None) u g k h = refl
on_id-stop (Err unbuilt.Room) u g k h = refl
on_id-stop (Err unbuilt.Units) u g k h = refl

pub on_nothing-stop : (b : Result NodeId Unbuilt) (u : ℕ) (g : List ℕ) (k : ℕ → List ℕ → Out) → (b ≡ Err unbuilt.None → ⊥) → on_nothing (built_of b) u g k ≡ out (built_of b) u g
on_nothing-stop (Ok x) u g k h = refl
on_nothing-stop (Err unbuilt.None) u g k h = absurd (h refl)
on_nothing-stop (Err unbuilt.Room) u g k h = refl
on_nothing-stop (Err unbuilt.Units) u g k h = refl

on_out_twice : (o : Out) (k : ℕ → ℕ → List ℕ → Out) → on_out (on_out o (λ n v h. out (id n) v h)) k ≡ on_out o k
on_out_twice o k = ap (λ (q : Out). on_out q k) (on_out-tail o)

on_id_bind : (f : Call → ℕ → List ℕ → Out) (a : Reply) (u : ℕ) (g : List ℕ) (c : ℕ → Call) (k : ℕ → ℕ → List ℕ → Out) →
    on_id a u g (λ n v h. on_out (f (c n) v h) k) ≡ on_out (on_id a u g (λ n v h. on_out (f (c n) v h) (λ m w j. out (id m) w j))) k
on_id_bind f (id n) u g c k = sym (on_out_twice (f (c n) u g) k)
on_id_bind f nothing u g c k = refl
on_id_bind f room u g c k = refl
on_id_bind f units u g c k = refl

-- a constant, a builder on it, and what follows: the first two as a program of their own
constant-call : (f : Call → ℕ → List ℕ → Out) (t : ScalarType) (v : ℕ) (c : ℕ → Call) (k : ℕ → Prog) (u : ℕ) (g : List ℕ) →
    exec f (constant_then t v (λ n. call (c n) k)) u g ≡ on_out (exec f (constant_then t v (λ n. tail (c n))) u g) (λ n w h. exec f (k n) w h)
constant-call f t v c k u g =
    on_id_bind f (inserted g t (constant_interval t (reduced t v)) (node.constant (reduced t v))).answer u
    (inserted g t (constant_interval t (reduced t v)) (node.constant (reduced t v))).words c (λ n w h. exec f (k n) w h)

-- unsigned_range: first the difference, then its comparison
pub range_first : (t : ScalarType) (v low high u : ℕ) (g : List ℕ) →
    exec build (range_prog t v low high) u g ≡ on_out (exec build (by_constant t low t bi.Sub v) u g) (λ d w h. exec build (by_constant t (u128.wrapping_sub high low) ty.Bool bi.LessEqualUnsigned d) w h)
range_first t v low high u g =
    constant-call build t low (λ c. binary t bi.Sub v c) (λ d. by_constant t (u128.wrapping_sub high low) ty.Bool bi.LessEqualUnsigned d) u g

-- a constant is a node that is inserted
pub constant-inserted : (g : List ℕ) (t : ScalarType) (v : ℕ) → inserted g t (constant_interval t (reduced t v)) (node.constant (reduced t v)) ≡ constant g t v
unfolding constant
constant-inserted g t v = refl
