-- What every builder keeps: no word of a node that was there is written.
use Prim.Native.Nat.{ℕ, zero, suc}
use mathlib.Core.List.{List}
use Rattle.std.specs.Prelude.{Option}
use Rattle.range.specs.Interval.{Interval}
use Rattle.range.specs.declared.ScalarType.{ScalarType}
use Rattle.graph.specs.Node.{Op, type_at}
use Rattle.graph.specs.Insert.{Reply, id, nothing, room, units, inserted}
use Rattle.graph.proofs.Kept.{Kept, inserted_kept}
use Rattle.build.specs.Build.{Call, Out, out, Prog, give, add, call, tries, on_id, on_out, on_nothing, on_none, exec, run, build, step, range_step, unsigned_range}
use Rattle.build.proofs.Laws.{region}

-- what an insertion keeps, every program keeps
module _ (P : List ℕ → Type 0) (one : (g : List ℕ) (t : ScalarType) (r : Option Interval) (o : Op) → P g → P (inserted g t r o).words) where
  on_id_keeps : (a : Reply) (u : ℕ) (g : List ℕ) (k : ℕ → ℕ → List ℕ → Out) → P g → ((n v : ℕ) (h : List ℕ) → P h → P (region (k n v h))) → P (region (on_id a u g k))
  on_id_keeps (id n) u g k p f = f n u g p
  on_id_keeps nothing u g k p f = p
  on_id_keeps room u g k p f = p
  on_id_keeps units u g k p f = p

  on_out_keeps : (o : Out) (k : ℕ → ℕ → List ℕ → Out) → P (region o) → ((n v : ℕ) (h : List ℕ) → P h → P (region (k n v h))) → P (region (on_out o k))
  on_out_keeps (out a u g) k p f = on_id_keeps a u g k p f

  on_nothing_keeps : (a : Reply) (u : ℕ) (g : List ℕ) (k : ℕ → List ℕ → Out) → P g → ((v : ℕ) (h : List ℕ) → P h → P (region (k v h))) → P (region (on_nothing a u g k))
  on_nothing_keeps (id n) u g k p f = p
  on_nothing_keeps nothing u g k p f = f u g p
  on_nothing_keeps room u g k p f = p
  on_nothing_keeps units u g k p f = p

  on_none_keeps : (o : Out) (k : ℕ → List ℕ → Out) → P (region o) → ((v : ℕ) (h : List ℕ) → P h → P (region (k v h))) → P (region (on_none o k))
  on_none_keeps (out a u g) k p f = on_nothing_keeps a u g k p f

  exec_keeps : (f : Call → ℕ → List ℕ → Out) → ((c : Call) (u : ℕ) (g : List ℕ) → P g → P (region (f c u g))) →
      (p : Prog) (u : ℕ) (g : List ℕ) → P g → P (region (exec f p u g))
  exec_keeps f hf (give a) u g h = h
  exec_keeps f hf (add t r o k) u g h =
      on_id_keeps (inserted g t r o).answer u (inserted g t r o).words (λ n v w. exec f (k n) v w) (one g t r o h) (λ n v w q. exec_keeps f hf (k n) v w q)
  exec_keeps f hf (call c k) u g h = on_out_keeps (f c u g) (λ n v w. exec f (k n) v w) (hf c u g h) (λ n v w q. exec_keeps f hf (k n) v w q)
  exec_keeps f hf (tries p k) u g h =
      on_none_keeps (exec f p u g) (λ v w. exec f (k w) v w) (exec_keeps f hf p u g h) (λ v w q. exec_keeps f hf (k w) v w q)

  run_keeps : (t : ℕ) (c : Call) (u : ℕ) (g : List ℕ) → P g → P (region (run t c u g))
  unfolding run
  run_keeps zero c u g h = h
  run_keeps (suc t) c zero g h = h
  run_keeps (suc t) c (suc u) g h = exec_keeps (run t) (run_keeps t) (step c g) u g h

  build_keeps : (c : Call) (u : ℕ) (g : List ℕ) → P g → P (region (build c u g))
  unfolding build
  build_keeps c u g h = run_keeps u c u g h

  range_keeps : (v low high u : ℕ) (g : List ℕ) → P g → P (region (unsigned_range v low high u g))
  unfolding unsigned_range
  range_keeps v low high u g h = exec_keeps build build_keeps (range_step (type_at g v) v low high) u g h

-- the words of the first n nodes of g, whatever is built
pub build_kept : (n : ℕ) (g : List ℕ) (c : Call) (u : ℕ) (h : List ℕ) → Kept n g h → Kept n g (region (build c u h))
build_kept n g c u h k = build_keeps (Kept n g) (λ j t r o q. inserted_kept n g j t r o q) c u h k

pub range_kept : (n : ℕ) (g : List ℕ) (v low high u : ℕ) (h : List ℕ) → Kept n g h → Kept n g (region (unsigned_range v low high u h))
range_kept n g v low high u h k = range_keeps (Kept n g) (λ j t r o q. inserted_kept n g j t r o q) v low high u h k
