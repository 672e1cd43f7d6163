-- Laws of replays: what is replayed behind what was replayed, and where a line's answer stands. Assumes nothing.
use Rattle.std.proofs.Common.{◌*◌, ◌%◌, ◌/◌, ◌-◌, arith, length-append, ◌≡◌, ℕ, ◌+◌, ◌<◌, ◌≤◌, List, [], ◌∷◌, ◌++◌, Option, Some, refl, sym, ap, ◌∙◌, subst, append_assoc, append-nil, length, take, length-take-le}
use Rattle.std.specs.Borrow.{Bor, MutBor}
use Rattle.std.specs.Fn.{Mut}
use Rattle.std.specs.List.{concat}
use Rattle.std.proofs.Math.Nat.{zero-mul, suc-mul, mul-mod_left, div-add-mod}
use Rattle.std.proofs.lemmas.List.{nil_from_length}
use Rattle.std.proofs.lemmas.Nat.{mod-mul-add}
use borrow.Rule.Slice.PartMut.{put_mid, post_of}
use lib.Seq.{take-append-add, take-append-le}
use Rattle.vector_lines.specs.Replay.{Answers, AnswersAll, ReplaysAll, ReplaysWhole, ReplaysSome}

-- the first bytes of a block, and behind them the first n of the part ys that was put there
pub front : (a k n : ℕ) (xs ys : List ℕ) → a ≤ length xs → n ≤ length ys → take a xs ++ take n ys ≡ take (a + n) (put_mid a k xs ys)
front a k n xs ys within fits =
    let p : length (take a xs) ≡ a = length-take-le a xs within in
    sym ((rw p at (take-append-add (take a xs) (ys ++ post_of a k xs) n)) ∙ ap (λ (m : List ℕ). take a xs ++ m) (take-append-le n ys (post_of a k xs) fits))

concat-append : (xs ys : List (List ℕ)) → concat (xs ++ ys) ≡ concat xs ++ concat ys
concat-append [] ys = refl
concat-append (x ∷ xs) ys = ap (λ (l : List ℕ). x ++ l) (concat-append xs ys) ∙ sym (append_assoc x (concat xs) (concat ys))

module _ {F : Type 0} (g : Mut F (Bor (List ℕ) × (MutBor (List ℕ) × Unit {0})) (Option ℕ × (MutBor (List ℕ) × Unit {0}))) (size : ℕ) where
  AnswersAll-append : (f mid last : F) (xs ys : List (List ℕ)) (s t : List ℕ)
      → AnswersAll g size f xs s mid → AnswersAll g size mid ys t last → AnswersAll g size f (xs ++ ys) (s ++ t) last
  AnswersAll-append f mid last [] ys s t p q =
      subst (λ (u : List ℕ). AnswersAll g size f ys u last) (sym (ap (λ (u : List ℕ). u ++ t) p.0))
      (subst (λ (h : F). AnswersAll g size h ys t last) p.1 q)
  AnswersAll-append f mid last (x ∷ xs) ys s t p q =
      (p.0, p.1 ++ t, p.2, p.3, p.4, AnswersAll-append p.2 mid last xs ys p.1 t p.5 q, ap (λ (u : List ℕ). u ++ t) p.6 ∙ append_assoc p.0 p.1 t)

  -- nothing was read yet
  pub ReplaysAll-nil : (f : F) → ReplaysAll g size f [] [] f
  ReplaysAll-nil f = record { lines = []; parts = refl; answers = (refl, refl) }

  -- one line
  pub ReplaysAll-line : (f next : F) (line answer : List ℕ) → length line ≡ size → Answers g f line (Some answer) next → ReplaysAll g size f line answer next
  ReplaysAll-line f next line answer e p = record {
    lines = line ∷ [];
    parts = sym (append-nil line);
    answers = (answer, [], next, e, p, (refl, refl), sym (append-nil answer));
  }

  pub ReplaysAll-append : (f mid last : F) (a b s t : List ℕ)
      → ReplaysAll g size f a s mid → ReplaysAll g size mid b t last → ReplaysAll g size f (a ++ b) (s ++ t) last
  ReplaysAll-append f mid last a b s t p q = record {
    lines = p.lines ++ q.lines;
    parts = ap (λ (l : List ℕ). l ++ b) p.parts ∙ ap (λ (l : List ℕ). concat p.lines ++ l) q.parts ∙ sym (concat-append p.lines q.lines);
    answers = AnswersAll-append f mid last p.lines q.lines s t p.answers q.answers;
  }

  lines_size : (f last : F) (lines : List (List ℕ)) (text : List ℕ) → AnswersAll g size f lines text last → length (concat lines) ≡ length lines * size
  lines_size f last [] text p = sym (zero-mul size)
  lines_size f last (line ∷ lines) text p =
      length-append line (concat lines) ∙ rw (p.3, lines_size p.2 last lines p.1 p.5) (omega (arith, suc-mul (length lines) size))

  -- no byte is left if a block has as many as some lines
  pub ReplaysWhole-all : (f last : F) (block text : List ℕ) → length block % size ≡ 0 → ReplaysWhole g size f block text last → ReplaysAll g size f block text last
  ReplaysWhole-all f last block text even p =
      let size_of : length block ≡ length p.replays.lines * size + length p.rest =
      ap length p.parts ∙ length-append p.front p.rest
      ∙ ap (λ (n : ℕ). n + length p.rest) (ap length p.replays.parts ∙ lines_size f last p.replays.lines text p.replays.answers) in
      let none : length p.rest ≡ 0 = rw (size_of, mod-mul-add (length p.replays.lines) size (length p.rest) p.less) at even in
      subst (λ (m : List ℕ). ReplaysAll g size f m text last) (sym (p.parts ∙ rw (nil_from_length p.rest none) (append-nil p.front))) p.replays

  pub ReplaysWhole-append : (f mid last : F) (a b s t : List ℕ)
      → ReplaysAll g size f a s mid → ReplaysWhole g size mid b t last → ReplaysWhole g size f (a ++ b) (s ++ t) last
  ReplaysWhole-append f mid last a b s t p q = record {
    front = a ++ q.front;
    rest = q.rest;
    parts = ap (λ (l : List ℕ). a ++ l) q.parts ∙ sym (append_assoc a q.front q.rest);
    replays = ReplaysAll-append f mid last a q.front s t p q.replays;
    less = q.less;
  }

  pub ReplaysSome-append : (f mid : F) (a b s t : List ℕ)
      → ReplaysAll g size f a s mid → ReplaysSome g size mid b t → ReplaysSome g size f (a ++ b) (s ++ t)
  ReplaysSome-append f mid a b s t p q = record {
    front = a ++ q.front;
    rest = q.rest;
    last = q.last;
    end = q.end;
    parts = ap (λ (l : List ℕ). a ++ l) q.parts ∙ sym (append_assoc a q.front q.rest);
    replays = ReplaysAll-append f mid q.last a q.front s t p q.replays;
    none = q.none;
  }

-- as many bytes as whole lines have
pub whole-even : (l size : ℕ) → 0 < size → (l - l % size) % size ≡ 0
whole-even l size some =
    let e : l - l % size ≡ l / size * size = omega (arith, div-add-mod l size) in
    rw e (mul-mod_left (l / size) size)
