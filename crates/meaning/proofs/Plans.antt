-- What each plan claims, and that a plan whose claim holds is carried out well: one clause for each variant. Assumes nothing.
use mathlib.Core.Path.{◌≡◌, refl, ap, ◌∙◌}
use mathlib.Core.Bool.{true}
use mathlib.Core.List.{List}
use Rattle.std.specs.Prelude.{Option, Some}
use Prim.Native.Nat.{ℕ, ◌≤◌, ◌<◌}
use native.Mathlib.Nat.{mod-lt}
use borrow.Author.Tests.{eq-eqb}
use lib.Pow.{pow_pos}
use Rattle.range.specs.declared.ScalarType.{ScalarType}
use Rattle.range.specs.declared.ScalarType.TheVariants as ty
use Rattle.evaluate.specs.Evaluate.{reduced}
use Rattle.evaluate.specs.Operator.{type_width}
use Rattle.evaluate.specs.declared.Binary.{Binary}
use Rattle.evaluate.specs.declared.Binary.TheVariants as bi
use Rattle.evaluate.specs.declared.Unary.TheVariants as un
use Rattle.graph.specs.Layout.{count_of}
use Rattle.graph.specs.Node.{type_at}
use Rattle.plan.specs.Plan as plan
use Rattle.plan.specs.Plan.{Plan, Attempt, First}
use Rattle.bitfield.specs.Bitfield.{Mask}
use Rattle.build.specs.Rest.{rest_plan}
use Rattle.build.specs.Build.{Call, identity, unary, modular, binary, slice, concat, Prog, call, constant_then, answer, tail, by_constant, plan_prog, mask_prog, attempt_prog, first_prog}
use Rattle.request.specs.Typing.{concat_typed}
use Rattle.meaning.specs.Value.{size, valued, and_then, unary_means, binary_means, slice_means, concat_means}
use Rattle.meaning.proofs.Worlds.{World, operation_means, operand, value}
use Rattle.meaning.proofs.Values.{then_is}
use Rattle.meaning.proofs.Invariant.{shiftable, stored_typed, Inv, ext_here, ext_type, ext_value, Storable, Kept, Found}
use Rattle.meaning.proofs.Constants.{constant-means, constant_storable}
use Rattle.meaning.proofs.Tree.{type_of, meaning, Callable, Good}

-- ---- where more is defined, an operation's value stays

-- every value of a is one of b
abbrev pub Covers : Option ℕ → Option ℕ → Type 0
Covers a b = (v : ℕ) → a ≡ Some v → b ≡ Some v

pub then_covers : (a b : Option ℕ) (f : ℕ → Option ℕ) → Covers a b → Covers (and_then a f) (and_then b f)
then_covers a b f c x e = let p = then_is a f x e in rw (c p.0 p.1) p.2

pub binary_covers : (t : ScalarType) (o : Binary) (a b c d : Option ℕ) → Covers a c → Covers b d → Covers (binary_means t o a b) (binary_means t o c d)
binary_covers t o a b c d p q x e =
    let r = then_is a _ x e in
    rw (p r.0 r.1) (then_covers b d _ q x r.2)

pub concat_covers : (t : ScalarType) (v : ℕ) (a b c d : Option ℕ) → Covers a c → Covers b d → Covers (concat_means t v a b) (concat_means t v c d)
concat_covers t v a b c d p q x e =
    let r = then_is a _ x e in
    rw (p r.0 r.1) (then_covers b d _ q x r.2)

-- ---- claims

-- a number is a value of a type
pub record Number (s : ScalarType) (v : ℕ) : Type 0 where
  pub width : type_width s ≤ 128
  pub small : reduced s v < size s

pub bits_number : {w : ℕ} → w ≤ 128 → (v : ℕ) → Number (ty.Bits w) v
bits_number {w} wide v = record { width = wide; small = mod-lt v (pow_pos w) }

module _ (ρ : World) (g : List ℕ) (t : ScalarType) (w : Option ℕ) where
  -- another builder's answer
  abbrev pub Tail : Call → Type 0
  Tail c = Callable g c × (type_of c ≡ t) × (ρ.IsSure → Covers w (meaning (value ρ g) c))

  -- a constant of type s, then an operation on node n and it
  abbrev pub ByConstantClaim : ScalarType → ℕ → ScalarType → Binary → ℕ → Type 0
  ByConstantClaim s v t' o n =
      Number s v × (t' ≡ t) × (type_width t' ≤ 128) × (n < count_of g) × (stored_typed o (type_at g n) s t' ≡ true)
      × (ρ.IsSure → Covers w (binary_means t' o (value ρ g n) (Some (reduced s v))))

  -- what a plan says of the type t and the value w that are asked for
  abbrev pub Claim : Plan → Type 0
  Claim (plan.give n) = Found ρ t w n g
  Claim plan.stop = Unit {0}
  Claim (plan.constant s v) = (s ≡ t) × Number s v × (ρ.IsSure → Covers w (Some (reduced s v)))
  Claim (plan.add s r o) = (s ≡ t) × Storable ρ g s r o × (ρ.IsSure → Covers w (operation_means ρ s o (operand ρ g)))
  Claim (plan.identity s n) = Tail (identity s n)
  Claim (plan.unary s o n) = Tail (unary s o n)
  Claim (plan.binary s o l r) = Tail (binary s o l r)
  Claim (plan.slice n o v) = Tail (slice n o v)
  Claim (plan.slice_identity n o v s) =
      Callable g (slice n o v) × (s ≡ t) × (type_width s ≤ 128) × (ρ.IsSure → Covers w (and_then (slice_means (ty.Bits v) o (value ρ g n)) (valued s)))
  Claim (plan.slice_shift n v s c) =
      Callable g (slice n 0 v) × (s ≡ t) × (type_width s ≤ 128) × Number ty.Integer c × (shiftable (ty.Bits v) s ≡ true)
      × (ρ.IsSure → Covers w (binary_means s bi.ShiftLeft (slice_means (ty.Bits v) 0 (value ρ g n)) (Some (reduced ty.Integer c))))
  Claim (plan.constant_binary s v t' o n) = ByConstantClaim s v t' o n
  Claim (plan.and_or s n m v) =
      Callable g (binary s bi.And n m) × (s ≡ t) × Number s v × (stored_typed bi.Or s s s ≡ true)
      × (ρ.IsSure → Covers w (binary_means s bi.Or (binary_means s bi.And (value ρ g n) (value ρ g m)) (Some (reduced s v))))
  Claim (plan.truncated v o l r) =
      (v ≤ 128) × (l < count_of g) × (r < count_of g) × (ty.Bits v ≡ t) × (stored_typed o (ty.Bits v) (ty.Bits v) (ty.Bits v) ≡ true)
      × (ρ.IsSure → Covers w
      (binary_means (ty.Bits v) o (unary_means (ty.Bits v) (un.Truncate v) (value ρ g l)) (unary_means (ty.Bits v) (un.Truncate v) (value ρ g r))))
  Claim (plan.split_concat l o v h u s) =
      Callable g (slice l o v) × Callable g (slice h 0 u) × (s ≤ 128) × (concat_typed (ty.Bits u) (ty.Bits v) v s ≡ true) × (ty.Bits s ≡ t)
      × (ρ.IsSure → Covers w (concat_means (ty.Bits s) v (slice_means (ty.Bits u) 0 (value ρ g h)) (slice_means (ty.Bits v) o (value ρ g l))))

-- ---- claims of what a builder does first

module _ (ρ : World) (g : List ℕ) (t : ScalarType) (w : Option ℕ) where
  -- a masked operation: And of the base and the mask, then the operation on that and the literal
  abbrev pub Masking : Mask → Type 0
  Masking m =
      Number m.type m.mask × Number m.type m.literal × (m.base < count_of g)
      × (stored_typed bi.And (type_at g m.base) m.type m.type ≡ true) × (m.result ≡ t) × (type_width m.result ≤ 128)
      × (stored_typed m.op m.type m.type m.result ≡ true)
      × (ρ.IsSure → Covers w
      (binary_means m.result m.op (binary_means m.type bi.And (value ρ g m.base) (Some (reduced m.type m.mask)))
      (Some (reduced m.type m.literal))))

  -- a fold that may come to None
  abbrev pub Trying : Attempt → Type 0
  Trying (plan.modular v u) = Tail ρ g t w (modular v u)
  Trying (plan.masked m) = Masking m

  -- what a builder does first, and where it goes on after None
  abbrev pub FirstClaim : First → Type 0
  FirstClaim (plan.does p) = Claim ρ g t w p
  FirstClaim (plan.tries a r) = Trying a × ((h : List ℕ) → Kept ρ g h → Claim ρ h t w (rest_plan h r))

-- ---- and that they make their programs good

module _ (ρ : World) (t : ScalarType) (w : Option ℕ) where
  answer_good : (g h : List ℕ) (n : ℕ) (t' : ScalarType) (w' : Option ℕ) → t' ≡ t → (ρ.IsSure → Covers w w') → Found ρ t' w' n h → Found ρ t w n h
  answer_good g h n t' w' e c f = record { here = f.here; type = f.type ∙ e; means = λ y x q. f.means y x (c y x q) }

  tail_good : (g : List ℕ) (c : Call) → Tail ρ g t w c → Good ρ t w (tail c) g
  tail_good g c k = (k.0, λ n h a f. answer_good g h n (type_of c) (meaning (value ρ g) c) k.1 k.2 f)

  -- a constant, and what follows it
  pub constant_good : (g : List ℕ) (s : ScalarType) (v : ℕ) (k : ℕ → Prog) → Number s v
      → ((n : ℕ) (h : List ℕ) → Kept ρ g h → n < count_of h → type_at h n ≡ s → (ρ.IsSure → value ρ h n ≡ Some (reduced s v)) → Good ρ t w (k n) h)
      → Good ρ t w (constant_then s v k) g
  constant_good g s v k m r = (
    constant_storable ρ g s (reduced s v) m.width m.small,
    λ n h a f. r n h a f.here f.type (λ y. f.means y (reduced s v) (constant-means ρ g s (reduced s v) m.width m.small)),
  )

  pub by_constant_good : (g : List ℕ) (s : ScalarType) (v : ℕ) (t' : ScalarType) (o : Binary) (n : ℕ) → ByConstantClaim ρ g t w s v t' o n
      → Good ρ t w (by_constant s v t' o n) g
  by_constant_good g s v t' o n k =
      constant_good g s v (λ c. tail (binary t' o n c)) k.0
      (λ c h a here type means.
      tail_good h (binary t' o n c) (
        (k.2, ext_here a.grows n k.3, here, (λ i. stored_typed o (ext_type a.grows n k.3 i) (type i) t') ∙ k.4),
        k.1,
        λ y x e. (λ i. binary_means t' o (ext_value ρ a.grows n k.3 i) (means y i)) ∙ k.5 y x e,
      ))

  pub perform_good : (g : List ℕ) → Inv ρ g → (p : Plan) → Claim ρ g t w p → Good ρ t w (plan_prog p) g
  perform_good g i (plan.give n) k = k
  perform_good g i plan.stop k = tt
  perform_good g i (plan.constant s v) k =
      constant_good g s v answer k.1 (λ n h a here type means. record { here = here; type = type ∙ k.0; means = λ y x e. means y ∙ k.2 y x e })
  perform_good g i (plan.add s r o) k = (k.1, λ n h a f. answer_good g h n s (operation_means ρ s o (operand ρ g)) k.0 k.2 f)
  perform_good g i (plan.identity s n) k = tail_good g (identity s n) k
  perform_good g i (plan.unary s o n) k = tail_good g (unary s o n) k
  perform_good g i (plan.binary s o l r) k = tail_good g (binary s o l r) k
  perform_good g i (plan.slice n o v) k = tail_good g (slice n o v) k
  perform_good g i (plan.slice_identity n o v s) k = (
    k.0,
    λ m h a f.
        tail_good h (identity s m)
        ((k.2, f.here), k.1, λ y x e. then_covers (slice_means (ty.Bits v) o (value ρ g n)) (value ρ h m) (valued s) (f.means y) x (k.3 y x e)),
  )
  perform_good g i (plan.slice_shift n v s c) k = (
    k.0,
    λ m h a f.
        by_constant_good h ty.Integer c s bi.ShiftLeft m (
          k.3,
          k.1,
          k.2,
          f.here,
          rw (f.type, k.4) refl,
          λ y x e.
              binary_covers s bi.ShiftLeft (slice_means (ty.Bits v) 0 (value ρ g n)) (Some (reduced ty.Integer c)) (value ρ h m) (Some (reduced ty.Integer c)) (f.means y)
              (λ z q. q) x (k.5 y x e),
        ),
  )
  perform_good g i (plan.constant_binary s v t' o n) k = by_constant_good g s v t' o n k
  perform_good g i (plan.and_or s n m v) k = (
    k.0,
    λ c h a f.
        by_constant_good h s v s bi.Or c (
          k.2,
          k.1,
          k.0.0,
          f.here,
          ap (λ (q : ScalarType). stored_typed bi.Or q s s) f.type ∙ k.3,
          λ y x e.
              binary_covers s bi.Or (binary_means s bi.And (value ρ g n) (value ρ g m)) (Some (reduced s v)) (value ρ h c) (Some (reduced s v)) (f.means y) (λ z q. q) x
              (k.4 y x e),
        ),
  )
  perform_good g i (plan.truncated v o l r) k =
      let same = eq-eqb v v refl in (
        (k.0, k.0, k.1, same),
        λ a h p f. (
          (k.0, k.0, ext_here p.grows r k.2, same),
          λ b j q d.
              tail_good j (binary (ty.Bits v) o a b) (
                (
                  k.0,
                  ext_here q.grows a f.here,
                  d.here,
                  (λ z. stored_typed o ((ext_type q.grows a f.here ∙ f.type) z) (d.type z) (ty.Bits v)) ∙ k.4,
                ),
                k.3,
                λ sure x e.
                    binary_covers (ty.Bits v) o (unary_means (ty.Bits v) (un.Truncate v) (value ρ g l)) (unary_means (ty.Bits v) (un.Truncate v) (value ρ g r)) (value ρ j a)
                    (value ρ j b) (λ y z. ext_value ρ q.grows a f.here ∙ f.means sure y z)
                    (λ y z. d.means sure y ((λ c. unary_means (ty.Bits v) (un.Truncate v) (ext_value ρ p.grows r k.2 c)) ∙ z)) x (k.5 sure x e),
              ),
        ),
      )
  perform_good g i (plan.split_concat l o v h u s) k = (
    k.0,
    λ a j p f. (
      (k.1.0, ext_here p.grows h k.1.1),
      λ b m q d.
          tail_good m (concat b a v s) (
            (
              k.0.0,
              k.2,
              d.here,
              ext_here q.grows a f.here,
              (λ z. concat_typed (d.type z) ((ext_type q.grows a f.here ∙ f.type) z) v s) ∙ k.3,
            ),
            k.4,
            λ sure x e.
                concat_covers (ty.Bits s) v (slice_means (ty.Bits u) 0 (value ρ g h)) (slice_means (ty.Bits v) o (value ρ g l)) (value ρ m b) (value ρ m a)
                (λ y z. d.means sure y ((λ c. slice_means (ty.Bits u) 0 (ext_value ρ p.grows h k.1.1 c)) ∙ z))
                (λ y z. ext_value ρ q.grows a f.here ∙ f.means sure y z) x (k.5 sure x e),
          ),
    ),
  )

  mask_good : (g : List ℕ) (m : Mask) → Masking ρ g t w m → Good ρ t w (mask_prog m) g
  mask_good g m k =
      constant_good g m.type m.mask
      (λ c. call (binary m.type bi.And m.base c) (λ a. by_constant m.type m.literal m.result m.op a)) k.0
      (λ c h a here type means. (
        (
          k.0.width,
          ext_here a.grows m.base k.2,
          here,
          (λ z. stored_typed bi.And (ext_type a.grows m.base k.2 z) (type z) m.type) ∙ k.3,
        ),
        λ n j b f.
            by_constant_good j m.type m.literal m.result m.op n (
              k.1,
              k.4,
              k.5,
              f.here,
              ap (λ (s : ScalarType). stored_typed m.op s m.type m.result) f.type ∙ k.6,
              λ sure x e.
                  binary_covers m.result m.op (binary_means m.type bi.And (value ρ g m.base) (Some (reduced m.type m.mask)))
                  (Some (reduced m.type m.literal)) (value ρ j n) (Some (reduced m.type m.literal))
                  (λ y q. f.means sure y ((λ z. binary_means m.type bi.And (ext_value ρ a.grows m.base k.2 z) (means sure z)) ∙ q)) (λ y q. q) x (k.7 sure x e),
            ),
      ))

  attempt_good : (g : List ℕ) (a : Attempt) → Trying ρ g t w a → Good ρ t w (attempt_prog a) g
  attempt_good g (plan.modular v u) k = tail_good g (modular v u) k
  attempt_good g (plan.masked m) k = mask_good g m k

  pub first_good : (g : List ℕ) → Inv ρ g → (f : First) → FirstClaim ρ g t w f → Good ρ t w (first_prog f) g
  first_good g i (plan.does p) k = perform_good g i p k
  first_good g i (plan.tries a r) k = (attempt_good g a k.0, λ h b. perform_good h b.inv (rest_plan h r) (k.1 h b))
