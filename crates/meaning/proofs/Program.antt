-- The program's records are a list of calls: what they leave is that list's graph, and each line is its call's answer. Assumes nothing.
use mathlib.Core.Path.{◌≡◌, refl, sym, ap, ◌∙◌, subst}
use mathlib.Core.Bool.{Bool, true, false, cond, ◌&&◌}
use mathlib.Core.List.{List, [], ◌∷◌, ◌++◌, append-nil}
use Rattle.std.specs.Prelude.{Option, None, Some}
use Prim.Native.Nat.{ℕ, zero, suc, ◌^◌, ◌≤◌, ◌<◌}
use native.Mathlib.Nat.{le_of_eq, min-eq_left, min-le_right}
use native.Mathlib.Omega.{arith}
use borrow.Author.Tests.{eqb-true, leb-true, eq-eqb}
use lib.Dec.{eqb, leb, lit<}
use lib.ListN.{length, get_or, take, drop, replicate, length-append, length-drop, length-replicate, get_or-replicate}
use lib.Seq.{length-take-le}
use Rattle.word.specs.Option.{provided, mapped, given}
use Rattle.word.proofs.Integer.{signed_mag}
use Rattle.range.proofs.Answers.{none-some, some_is}
use Rattle.range.specs.declared.ScalarType.{ScalarType}
use Rattle.graph.specs.Layout.{REGION, LIMIT, count_of}
use Rattle.graph.specs.Node.{range_of}
use Rattle.graph.specs.WellFormed.{is_graph}
use Rattle.graph.proofs.Grown.{graph_facts}
use Rattle.retain.specs.Retain.{is_keep_list, are_allowed}
use Rattle.retain.proofs.Moving.{ids-length}
use Rattle.retain.proofs.Operands.{keep_list_facts}
use Rattle.request.specs.Codes.{unary_by_code, binary_by_code, truth_by_number}
use Rattle.request.specs.Request as asks
use Rattle.request.specs.Request.{Request}
use Rattle.native.specs.Call.{Called}
use Rattle.native.specs.Perform.{request_in_graph, request_call}
use Rattle.native.specs.Retain.{Retention, retain_in_graph, retain_call}
use Rattle.mark.specs.Layout.{MARKS}
use Rattle.mark.specs.WellFormed.{is_marked}
use Rattle.guard_list.specs.GuardList.{guards_call}
use Rattle.mark.specs.Mark as marks
use Rattle.mark.proofs.Facts.{marked_both}
use Rattle.record.specs.Record as records
use Rattle.record.specs.Record.{little, Bytes, constant_body, constant_value, input_body, input_type, input_flag, input_plain, input_minimum, effect_type, unary_operator, binary_operator, guard_expected, request_in, Asked, asked_in, tag_in, asked}
use Rattle.record.specs.Line.{BAD, answer_line, retain_line}
use Rattle.record.specs.Perform.{Effect, lent_words, done_by, effect_in_graph, effect_call}
use Rattle.record.proofs.Little.{bytes_drop, little_below}
use Rattle.meaning.specs.Value.{Env}
use Rattle.meaning.specs.Book.{Action, request, retain, mark, return_to, guards, patterned, play, Unmarked}
use Rattle.meaning.specs.Program.{Run, next, run_of, is_over, call_of, calls_of, line_of, lines_of, AllBytes, Plays, Grown}
use Rattle.meaning.proofs.Answers.{by_test, by_provided, by_given}
use Rattle.meaning.proofs.Invariant.{Ends}
use Rattle.meaning.proofs.Patterns.{Pattern, patterned_same}
use Rattle.meaning.proofs.Demand3.{grown-graph, grown-marked}
use Rattle.meaning.proofs.Mapping.{marked-retain}

-- ---- what holds of an answer that is there

module _ {A : Type 0} (P : A → Type 0) where
  abbrev All : Option A → Type 0
  All o = (a : A) → o ≡ Some a → P a

  all_none : All None
  all_none a e = absurd (none-some e)

  all_some : (x : A) → P x → All (Some x)
  all_some x p a e = subst P (some_is e) p

  all_when : (b : Bool) (o : Option A) → (b ≡ true → All o) → All (provided b o)
  all_when b o h = by_provided All b h all_none

  all_cond : (b : Bool) (x y : Option A) → All x → All y → All (cond b x y)
  all_cond b x y h k = by_test All b (λ e. h) (λ e. k)

  all_given : {B : Type 0} (o : Option B) (f : B → Option A) → ((x : B) → All (f x)) → All (given o f None)
  all_given o f h = by_given All o (λ x e. h x) (λ e. all_none)

all_mapped : {A B : Type 0} (P : B → Type 0) (f : A → B) (o : Option A) → All (λ (a : A). P (f a)) o → All P (mapped f o)
all_mapped P f None h = all_none P
all_mapped P f (Some a) h = all_some P (f a) (h a refl)

-- ---- the values that a record names are 128-bit patterns

pub bytes_take : (k : ℕ) (bs : List ℕ) → Bytes bs → Bytes (take k bs)
bytes_take zero bs b i = omega arith
bytes_take (suc k) [] b i = omega arith
bytes_take (suc k) (x ∷ bs) b zero = b 0
bytes_take (suc k) (x ∷ bs) b (suc i) = bytes_take k bs (λ j. b (suc j)) i

-- 16 bytes are below 2 ^ 128
word_below : (bs : List ℕ) → Bytes bs → length bs ≡ 16 → little bs < 2 ^ 128
word_below bs b e = little_below 16 bs b (le_of_eq e)

-- any request but a constant and an input
plain : (q : Request) → Pattern q → All Pattern (Some q)
plain q p = all_some Pattern q p

-- a type, and what the rest says with it
type_all : (f : ScalarType → List ℕ → Option Request) (bs : List ℕ) → ((t : ScalarType) → All Pattern (f t (drop 2 bs))) → All Pattern (records.type_field bs f)
type_all f bs h = all_when Pattern (leb 2 (length bs)) _ (λ e. all_given Pattern (records.type_in bs) _ h)

field_all : (k : ℕ) (bs : List ℕ) (f : ℕ → List ℕ → Option Request)
    → ((n : ℕ) → All Pattern (f n (drop k bs))) → All Pattern (records.field k bs f)
field_all k bs f h = all_when Pattern (leb k (length bs)) _ (λ e. h (little (take k bs)))

constant_all : (bs : List ℕ) → Bytes bs → All Pattern (constant_body bs)
constant_all bs b =
    type_all constant_value bs
    (λ t. all_when Pattern (eqb (length (drop 2 bs)) 16) _
    (λ e. plain (asks.constant t (little (drop 2 bs))) (word_below (drop 2 bs) (bytes_drop 2 bs b) (eqb-true (length (drop 2 bs)) 16 e))))

input_all : (bs : List ℕ) → Bytes bs → All Pattern (input_body bs)
input_all bs b =
    field_all 8 bs input_type
    (λ n. type_all (input_flag n) (drop 8 bs)
    (λ t.
    let rest = drop 2 (drop 8 bs) in
    all_when Pattern (leb 1 (length rest)) _
    (λ e. all_cond Pattern (eqb (get_or rest 0 0) 0) _ _ (no_range n t (drop 1 rest))
    (all_cond Pattern (eqb (get_or rest 0 0) 1) _ _ (ranged n t (drop 1 rest) (bytes_drop 1 rest (bytes_drop 2 (drop 8 bs) (bytes_drop 8 bs b)))) (all_none Pattern)))))
  where
    no_range : (n : ℕ) (t : ScalarType) (bs : List ℕ) → All Pattern (input_plain n t bs)
    no_range n t bs = all_when Pattern (eqb (length bs) 0) _ (λ e. plain (asks.input n t None) (λ a q. absurd (none-some q)))

    ranged : (n : ℕ) (t : ScalarType) (bs : List ℕ) → Bytes bs → All Pattern (input_minimum n t bs)
    ranged n t bs b =
        all_when Pattern (leb 16 (length bs)) _
        (λ e. all_when Pattern (eqb (length (drop 16 bs)) 16) _
        (λ f.
        let low = word_below (take 16 bs) (bytes_take 16 bs b) (length-take-le 16 bs (leb-true 16 (length bs) e)) in
        let high = word_below (drop 16 bs) (bytes_drop 16 bs b) (eqb-true (length (drop 16 bs)) 16 f) in
        plain (asks.input n t (range_of 1 (little (take 16 bs)) (little (drop 16 bs))))
        (λ a q. subst Ends (some_is q) (record { low = signed_mag 128 _ (lit< tt) low; high = signed_mag 128 _ (lit< tt) high }))))

request_all : (tag : ℕ) (bs : List ℕ) → Bytes bs → All Pattern (request_in tag bs)
unfolding request_in
request_all tag bs b =
    all_cond Pattern (eqb tag 1) _ _ (constant_all bs b)
    (all_cond Pattern (eqb tag 2) _ _ (input_all bs b)
    (all_cond Pattern (eqb tag 3) _ _
    (field_all 8 bs effect_type (λ n. all_when Pattern (eqb (length (drop 8 bs)) 2) _ (λ e. all_mapped Pattern (asks.effect n) (records.type_in (drop 8 bs)) (λ t q. tt))))
    (all_cond Pattern (eqb tag 4) _ _
    (type_all unary_operator bs
    (λ t. all_when Pattern (leb 2 (length (drop 2 bs))) _
    (λ e. all_given Pattern (unary_by_code (get_or (drop 2 bs) 0 0) (get_or (drop 2 bs) 1 0)) _
    (λ o. all_when Pattern (eqb (length (drop 2 (drop 2 bs))) 2) _ (λ f. plain (asks.unary t o (little (drop 2 (drop 2 bs)))) tt)))))
    (all_cond Pattern (eqb tag 5) _ _
    (type_all binary_operator bs
    (λ t. all_when Pattern (leb 1 (length (drop 2 bs))) _
    (λ e. all_given Pattern (binary_by_code (get_or (drop 2 bs) 0 0)) _
    (λ o. field_all 2 (drop 1 (drop 2 bs)) (records.binary_right t o)
    (λ l. all_when Pattern (eqb (length (drop 2 (drop 1 (drop 2 bs)))) 2) _ (λ f. plain (asks.binary t o l (little (drop 2 (drop 1 (drop 2 bs))))) tt))))))
    (all_cond Pattern (eqb tag 6) _ _
    (field_all 2 bs records.slice_offset
    (λ v. field_all 2 (drop 2 bs) (records.slice_width v)
    (λ o. all_when Pattern (eqb (length (drop 2 (drop 2 bs))) 1) _ (λ f. plain (asks.slice v o (get_or (drop 2 (drop 2 bs)) 0 0)) tt))))
    (all_cond Pattern (eqb tag 7) _ _
    (field_all 2 bs records.concat_low
    (λ h. field_all 2 (drop 2 bs) (records.concat_low_width h)
    (λ l. all_when Pattern (leb 1 (length (drop 2 (drop 2 bs)))) _
    (λ e. all_when Pattern (eqb (length (drop 1 (drop 2 (drop 2 bs)))) 1) _
    (λ f. plain (asks.concat h l (get_or (drop 2 (drop 2 bs)) 0 0) (get_or (drop 1 (drop 2 (drop 2 bs))) 0 0)) tt)))))
    (all_cond Pattern (eqb tag 8) _ _
    (field_all 2 bs records.range_low
    (λ v. field_all 16 (drop 2 bs) (records.range_high v)
    (λ l. all_when Pattern (eqb (length (drop 16 (drop 2 bs))) 16) _ (λ f. plain (asks.unsigned_range v l (little (drop 16 (drop 2 bs)))) tt))))
    (all_cond Pattern (eqb tag 9) _ _
    (field_all 2 bs guard_expected
    (λ n. all_when Pattern (eqb (length (drop 2 bs)) 1) _ (λ e. all_mapped Pattern (asks.guard n) (truth_by_number (get_or (drop 2 bs) 0 0)) (λ t q. tt))))
    (all_none Pattern)))))))))

-- what a record asks for
abbrev AskedPattern : Asked → Type 0
AskedPattern (records.request q) = Pattern q
AskedPattern (records.retain keep) = Unit {0}

asked_all : (bs : List ℕ) → Bytes bs → All AskedPattern (asked bs)
unfolding asked
asked_all bs b =
    all_given AskedPattern (tag_in bs) (λ tag. asked_in tag (drop 3 bs))
    (λ tag. all_cond AskedPattern (eqb tag records.RETAIN) _ _ (all_some AskedPattern (records.retain (drop 3 bs)) tt)
    (all_mapped AskedPattern records.request (request_in tag (drop 3 bs)) (request_all tag (drop 3 bs) (bytes_drop 3 bs b))))

-- ---- one record and one call

-- what a call leaves of a graph
abbrev leaves : List ℕ → List ℕ → Action → List ℕ
leaves g w (request q) = (request_call g (patterned q)).words
leaves g w (retain keep mapping) = (marks.retain_call g w keep mapping).retention.words
leaves g w mark = g
leaves g w (return_to k) = (marks.return_call g w k).words
leaves g w (guards cs es) = (guards_call g cs es).words

play_leaves : (ρ : Env) (w : List ℕ) (a : Action) (before : List Action)
    → (play ρ w (a ∷ before)).now.graph ≡ leaves (play ρ w before).now.graph (play ρ w before).marks a
unfolding play
play_leaves ρ w (request q) before = refl
play_leaves ρ w (retain keep mapping) before = refl
play_leaves ρ w mark before = refl
play_leaves ρ w (return_to k) before = refl
play_leaves ρ w (guards cs es) before = refl

-- question 6 looks at the length of a mapping alone
and_twice : (b c : Bool) → b && (true && c) ≡ b && (b && c)
and_twice true c = refl
and_twice false c = refl

keep-fits : (g keep m : List ℕ) → length m ≡ count_of g → is_keep_list g keep m ≡ is_keep_list g keep keep
unfolding is_keep_list
keep-fits g keep m e = rw (eq-eqb (length m) (count_of g) e) (and_twice (eqb (length keep) (count_of g)) (are_allowed g keep (count_of g)))

-- the region and the outcome of a retain do not depend on what its mapping holds
abbrev Alike : Retention → Retention → Type 0
Alike r s = (r.words ≡ s.words) × (r.outcome ≡ s.outcome)

both_alike : (s t : Bool) (a b c d e : Retention) → Alike b d → Alike c e → Alike (cond s (cond t a b) c) (cond s (cond t a d) e)
both_alike true true a b c d e p q = (refl, refl)
both_alike true false a b c d e p q = p
both_alike false t a b c d e p q = q

retain_alike : (g keep m n : List ℕ) → is_keep_list g keep m ≡ is_keep_list g keep n → Alike (retain_call g keep m) (retain_call g keep n)
unfolding retain_call retain_in_graph
retain_alike g keep m n e = rw e (both_alike (is_graph g) (is_keep_list g keep n) _ _ _ _ _ (refl, refl) (refl, refl))

-- and its mapping keeps its length
retain-length : (g keep m : List ℕ) → length (retain_call g keep m).mapping ≡ length m
unfolding retain_call retain_in_graph
retain-length g keep m =
    by_test (λ (r : Retention). length r.mapping ≡ length m) (is_graph g)
    (λ e. by_test (λ (r : Retention). length r.mapping ≡ length m) (is_keep_list g keep m)
    (λ c. ids-length keep (count_of g) ∙ sym (keep_list_facts g keep m c).ids) (λ c. refl))
    (λ e. refl)

module _ (g w m : List ℕ) (both : is_marked g w ≡ true) (fits : LIMIT ≤ length m) where
  is_it : is_graph g ≡ true
  is_it = (marked_both g w both).0

  lent_all : lent_words g m ≡ count_of g
  lent_all = min-eq_left (omega (arith, (graph_facts g is_it).count, fits))

  lent_length : length (take (lent_words g m) m) ≡ lent_words g m
  lent_length = length-take-le (lent_words g m) m (min-le_right (count_of g) (length m))

  -- a record's effect is its call's
  pub record Does (a : Action) (e : Effect) : Type 0 where
    pub graph : e.graph ≡ leaves g w a
    pub text : e.text ≡ line_of g w a
    pub on : e.is_last ≡ false
    pub mapping : length e.mapping ≡ length m

  does : (a : Asked) → AskedPattern a → Does (call_of a) (done_by (request_call g) (retain_call g) g m (Some a))
  unfolding done_by
  does (records.request q) p =
      let e = sym (patterned_same q p) in
      record { graph = ap (λ (q : Request). (request_call g q).words) e; text = ap (λ (q : Request). answer_line (request_call g q).answer) e; on = refl; mapping = refl }
  does (records.retain keep) p =
      let k = lent_words g m in
      let s = retain_alike g keep (take k m) keep (keep-fits g keep (take k m) (lent_length ∙ lent_all)) in
      record {
        graph = s.0 ∙ sym (ap (λ (r : Retention). r.words) (marked-retain g w keep keep both));
        text = ap retain_line (s.1 ∙ sym (ap (λ (r : Retention). r.outcome) (marked-retain g w keep keep both)));
        on = refl;
        mapping = length-append (retain_call g keep (take k m)).mapping (drop k m)
            ∙ rw (retain-length g keep (take k m), lent_length, length-drop k m) (omega (arith, min-le_right (count_of g) (length m)));
      }

-- ---- records one after another

module _ (ρ : Env) (w : List ℕ) (unmarked : Unmarked w) (m : List ℕ) (fits : LIMIT ≤ length m) where
  -- the theorem, with a mapping that keeps its length
  abbrev Played : List (List ℕ) → Run → Type 0
  Played rs s = Plays ρ w rs s × (length s.mapping ≡ length m)

  -- a record more
  step : (rs : List (List ℕ)) (r : List ℕ) (s : Run) → Bytes r → Played rs s → Played (r ∷ rs) (next s r)
  unfolding calls_of lines_of effect_call done_by
  step rs r s b pl = by (is_over rs) refl (asked r) refl
    where
      p : Plays ρ w rs s
      p = pl.0

      by : (t : Bool) → is_over rs ≡ t → (o : Option Asked) → asked r ≡ o → Played (r ∷ rs) (next s r)
      by true e o q =
          let h : s.is_over ≡ true = p.over ∙ e in
          rw h (record { graph = rw e p.graph; text = rw e (rw e at p.text); over = rw e }, pl.1)
      by false e None q =
          let h : s.is_over ≡ false = p.over ∙ e in
          let t : s.text ≡ lines_of ρ w (calls_of rs) = (rw e at p.text) ∙ append-nil (lines_of ρ w (calls_of rs)) in
          rw (h, q) (record { graph = rw (e, q) p.graph; text = rw (e, q) (ap (λ (x : List ℕ). x ++ BAD) t); over = rw (e, q) }, pl.1)
      by false e (Some a) q =
          let h : s.is_over ≡ false = p.over ∙ e in
          let t : s.text ≡ lines_of ρ w (calls_of rs) = (rw e at p.text) ∙ append-nil (lines_of ρ w (calls_of rs)) in
          let v = (play ρ w (calls_of rs)).marks in
          let both : is_marked s.graph v ≡ true = rw p.graph (grown-marked ρ w unmarked (calls_of rs)) in
          let d = does s.graph v s.mapping both (omega (arith, pl.1, fits)) a (asked_all r b a q) in
          rw (h, q) (
            record {
              graph = rw (e, q) (d.graph ∙ ap (λ (x : List ℕ). leaves x v (call_of a)) p.graph ∙ sym (play_leaves ρ w (call_of a) (calls_of rs)));
              text = rw (e, q)
                  (ap (λ (x : List ℕ). x ++ (done_by (request_call s.graph) (retain_call s.graph) s.graph s.mapping (Some a)).text) t
                  ∙ ap (λ (x : List ℕ). lines_of ρ w (calls_of rs) ++ x) (d.text ∙ ap (λ (x : List ℕ). line_of x v (call_of a)) p.graph)
                  ∙ sym (append-nil (lines_of ρ w (calls_of rs) ++ line_of (play ρ w (calls_of rs)).now.graph v (call_of a))));
              over = rw (e, q) d.on;
            },
            d.mapping ∙ pl.1,
          )

  -- every sequence of records
  pub played : (rs : List (List ℕ)) → AllBytes rs → Played rs (run_of m rs)
  unfolding run_of calls_of lines_of play
  played [] b = (record { graph = refl; text = refl; over = refl }, refl)
  played (r ∷ rs) b = step rs r (run_of m rs) b.0 (played rs b.1)

-- ---- on the tier that does not ask question 1

-- on a graph both tiers do the same
request-asked : (g : List ℕ) (q : Request) → is_graph g ≡ true → request_call g q ≡ request_in_graph g q
unfolding request_call
request-asked g q e = rw e

retain-asked : (g keep m : List ℕ) → is_graph g ≡ true → retain_call g keep m ≡ retain_in_graph g keep m
unfolding retain_call
retain-asked g keep m e = rw e

pub effect-asked : (g m bs : List ℕ) → is_graph g ≡ true → effect_in_graph g m bs ≡ effect_call g m bs
unfolding effect_in_graph effect_call done_by
effect-asked g m bs e = by (asked bs)
  where
    by : (o : Option Asked) → done_by (request_in_graph g) (retain_in_graph g) g m o ≡ done_by (request_call g) (retain_call g) g m o
    by None = refl
    by (Some (records.request q)) = rw (request-asked g q e)
    by (Some (records.retain keep)) = rw (retain-asked g keep (take (lent_words g m) m) e)

-- a grown graph passes question 1
pub grown-is_graph : {g : List ℕ} → Grown g → is_graph g ≡ true
grown-is_graph w = rw (sym w.grows) (grown-graph w.env w.marks w.none w.calls)

-- what records leave of a grown graph is grown
pub grown-effect : (g m bs : List ℕ) → Bytes bs → Grown g → Grown (effect_in_graph g m bs).graph
unfolding effect_in_graph done_by
grown-effect g m bs b w = by (asked bs) refl
  where
    by : (o : Option Asked) → asked bs ≡ o → Grown (done_by (request_in_graph g) (retain_in_graph g) g m o).graph
    by None e = w
    by (Some (records.request q)) e = record {
      env = w.env;
      marks = w.marks;
      none = w.none;
      calls = request q ∷ w.calls;
      grows = play_leaves w.env w.marks (request q) w.calls
          ∙ ap (λ (x : List ℕ). (request_call x (patterned q)).words) w.grows
          ∙ ap (λ (p : Request). (request_call g p).words) (patterned_same q (asked_all bs b (records.request q) e))
          ∙ ap (λ (c : Called). c.words) (request-asked g q (grown-is_graph w));
    }
    by (Some (records.retain keep)) e = record {
      env = w.env;
      marks = w.marks;
      none = w.none;
      calls = retain keep (take (lent_words g m) m) ∷ w.calls;
      grows = play_leaves w.env w.marks (retain keep (take (lent_words g m) m)) w.calls
          ∙ ap (λ (r : Retention). r.words) (marked-retain _ _ keep (take (lent_words g m) m) (grown-marked w.env w.marks w.none w.calls))
          ∙ ap (λ (x : List ℕ). (retain_call x keep (take (lent_words g m) m)).words) w.grows
          ∙ ap (λ (r : Retention). r.words) (retain-asked g keep (take (lent_words g m) m) (grown-is_graph w));
    }

-- the empty graph is grown
pub empty_grown : Grown (replicate REGION 0)
unfolding play
empty_grown = record {
  env = record { input = λ n. 0; effect = λ n. 0 };
  marks = replicate MARKS 0;
  none = (length-replicate {A = ℕ} MARKS 0, get_or-replicate {A = ℕ} MARKS 0 0 0 (omega arith));
  calls = [];
  grows = refl;
}
