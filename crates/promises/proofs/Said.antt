-- What can be said of a small log, what that means of a report call, and a test that computes whether it is so.
use mathlib.Core.Path.{◌≡◌, refl, sym, ap, ap₂, subst, ◌∙◌}
use mathlib.Core.Bool.{Bool, true, false, not, ◌&&◌}
use mathlib.Core.List.{List, [], ◌∷◌, ◌++◌, map, Memᴰ as Mem}
use Prim.Native.Nat.{ℕ, ◌<◌}
use native.Mathlib.Omega.{arith}
use lib.Dec.{T, eqb, eqb→eq, leb, nleb→lt}
use lib.ListN.{length, take, drop, get_or}
use borrow.Author.Tests.{lt-leb}
use Rattle.order.specs.Order.{All}
use Rattle.paths.specs.Graph.{Graph, Acyclic, member, weight}
use Rattle.paths.proofs.Theorems.{one_furthest}
use Rattle.paths.proofs.Checker.{
  both,
  each,
  each_right,
  some,
  some_right,
  member_right,
  settled_test,
  settled_right,
  loop_test,
  loop_right,
}
use Rattle.paths.proofs.Worked as worked
use Rattle.logs.specs.Words.{number, word}
use Rattle.logs.specs.Answer.{given, refused}
use Rattle.logs.specs.Log.{heard_from, questions, marks_of, voices_by, graph_of, heard_count, voices_count}
use Rattle.logs.specs.declared.Ceilings.{Ceilings}
use Rattle.writing.specs.Layout.{thread_words, threads_words, ended, report_words, loop_words, report_need, apart_of, threads_of}
use Rattle.report.specs.Report.{outcome_answer, asked, report_needs, cleared, Reported, Passes, Left}
use Rattle.report.specs.Accepted.{LentEnough}
use Rattle.report.specs.declared.Outcome.{Outcome}
use Rattle.writing.proofs.Layouts.{report_head}
use Rattle.report.proofs.Asked.{asked_read}
use Rattle.report.proofs.Reported as calls
use Rattle.promises.proofs.Choices.{covers, covers_all, loops, loops_all}

-- What the scope says of a small log.
pub data Said : Type 0 where
  -- of every call whose buffers pass questions 11 and 12: the words of its report
  report : List ℕ → Said
  -- of the same calls: the width, the apart set, and episodes that every thread passes
  parts : ℕ → List ℕ → List ℕ → Said
  -- of the same calls: refusal 13, with its place and the words of the loop
  loop : ℕ → List ℕ → Said
  -- of every call with an output of so many words: refusal 11, with its place
  short : ℕ → ℕ → Said

-- What is said is so of the call with the output and the work buffer `o` and `w` that leaves `o'`, `w'` and the outcome `r`.
abbrev pub Shown : List ℕ → Said → (o w o' w' : List ℕ) → Outcome → Type 0
Shown l (report ws) o w o' w' r =
    LentEnough l (length o) (length w)
    → (outcome_answer r ≡ given (length ws)) × (o' ≡ ws ++ drop (length ws) o) × (w' ≡ cleared w)
Shown l (parts k s through) o w o' w' r =
    LentEnough l (length o) (length w)
    → (c : ℕ) × (outcome_answer r ≡ given c)
    × (get_or (take c o') 0 0 ≡ word 4 k)
    × (apart_of (take c o') ≡ s)
    × (length (threads_of (take c o')) ≡ k)
    × All (λ t. All (λ v. Mem v t) through) (threads_of (take c o'))
Shown l (loop p ws) o w o' w' r =
    LentEnough l (length o) (length w)
    → (outcome_answer r ≡ refused 13 p) × (o' ≡ ws ++ drop (length ws) o) × (w' ≡ cleared w)
Shown l (short k p) o w o' w' r = length o ≡ k → (outcome_answer r ≡ refused 11 p) × (o' ≡ o) × (w' ≡ w)

-- two lists are the same
same : List ℕ → List ℕ → Bool
same [] [] = true
same [] (y ∷ l) = false
same (x ∷ k) [] = false
same (x ∷ k) (y ∷ l) = eqb x y && same k l

same_right : (k l : List ℕ) → T (same k l) → k ≡ l
unfolding same
same_right [] [] h = refl
same_right [] (y ∷ l) h = absurd h
same_right (x ∷ k) [] h = absurd h
same_right (x ∷ k) (y ∷ l) h =
    let q = both (eqb x y) (same k l) h in
    ap₂ (λ (z : ℕ) (r : List ℕ). z ∷ r) (eqb→eq x y q.0) (same_right k l q.1)

-- one of the covers worked out in `paths` settles that `s` is the furthest apart set
settles : Graph → List ℕ → Bool
settles g s = some (λ h. settled_test g h.threads s h.behind) (worked.rows ++ worked.voiced_rows)

-- then the graph is acyclic and every report on it has the apart set `s`
settles_right : (g : Graph) (s : List ℕ) → T (settles g s) → Acyclic g × ((a : List ℕ) (ts : List (List ℕ)) → Reported g a ts → a ≡ s)
unfolding settles
settles_right g s h =
    let (row, m, t) = some_right (λ (h : worked.Row). settled_test g h.threads s h.behind) (worked.rows ++ worked.voiced_rows) h in
    let d = settled_right g row.threads s row.behind t in
    (d.acyclic, λ a ts r. one_furthest g d.acyclic a s r.furthest d.furthest r.rising d.rising)

-- `s` is the apart set, and each cover that can be shown with it passes
cover_test : Graph → List ℕ → (List (List ℕ) → Bool) → Bool
unfolding settles settled_test some each covers
cover_test g s f = settles g s && each f (covers g s)

-- then that is so of every report
cover_right : (g : Graph) (s : List ℕ) (f : List (List ℕ) → Bool) → T (cover_test g s f)
    → Acyclic g × ((a : List ℕ) (ts : List (List ℕ)) → Reported g a ts → (a ≡ s) × T (f ts))
unfolding cover_test
cover_right g s f h =
    let q = both (settles g s) (each f (covers g s)) h in
    let d = settles_right g s q.0 in (
      d.0,
      λ a ts r.
          let e : a ≡ s = d.1 a ts r in
          (e, each_right f (covers g s) q.1 ts (covers_all g s ts (subst (λ (x : List ℕ). Reported g x ts) e r))),
    )

-- what is said of the log `l` is so, if the log passes questions 1 to 10 and 18 to 21
unfoldable pub said_test : List ℕ → Said → Bool
unfolding cover_test same each member weight loops loop_test heard_from marks_of voices_by apart_of report_words ended threads_words thread_words loop_words
said_test l (report ws) = cover_test (graph_of l) (apart_of ws) (λ ts. same (report_words (apart_of ws) ts) ws)
said_test l (parts k s through) = eqb (weight (graph_of l) s) k && cover_test (graph_of l) s (each (λ t. each (λ v. member v t) through))
said_test l (loop p ws) =
    loop_test (graph_of l) (map number (drop 1 ws)) && each (λ c. eqb (length c) p && same (loop_words c) ws) (loops (graph_of l))
said_test l (short k p) = not (leb (report_need (graph_of l).n (voices_count l)) k) && eqb (report_need (graph_of l).n (voices_count l)) p

-- Where the test passes, what is said is so of every call on a log that passes questions 1 to 10 and 18 to 21.
module _ (m : Ceilings) (l : List ℕ) (read : questions m l ≡ given ((graph_of l).n, heard_count l)) (o w o' w' : List ℕ) (r : Outcome)
    (left : Left m l o w o' w' r) where
  passes : LentEnough l (length o) (length w) → Passes m l (length o) (length w)
  passes = calls.read_passes m l read (length o) (length w)

  report_said : (ws : List ℕ) → T (said_test l (report ws)) → Shown l (report ws) o w o' w' r
  unfolding said_test
  report_said ws h enough =
      let (acyclic, only) = cover_right (graph_of l) (apart_of ws) (λ ts. same (report_words (apart_of ws) ts) ws) h in
      let (c, e) = calls.acyclic_given m l o w o' w' r (passes enough) acyclic left in
      let d = calls.given_left m l o w o' w' r c left e in
      let ts : List (List ℕ) = threads_of (take c o') in
      let (a, f) = only (apart_of (take c o')) ts d.reported in
      let words : take c o' ≡ ws =
      d.words ∙ ap (λ (s : List ℕ). report_words s ts) a ∙ same_right (report_words (apart_of ws) ts) ws f in
      let count : c ≡ length ws = sym d.count ∙ ap length words in
      (e ∙ ap given count, d.unchanged ∙ ap₂ (λ (x : List ℕ) (k : ℕ). x ++ drop k o) words count, d.work)

  parts_said : (k : ℕ) (s through : List ℕ) → T (said_test l (parts k s through)) → Shown l (parts k s through) o w o' w' r
  unfolding said_test
  parts_said k s through h enough =
      let passing : List (List ℕ) → Bool = each (λ t. each (λ v. member v t) through) in
      let q = both (eqb (weight (graph_of l) s) k) (cover_test (graph_of l) s passing) h in
      let (acyclic, only) = cover_right (graph_of l) s passing q.1 in
      let (c, e) = calls.acyclic_given m l o w o' w' r (passes enough) acyclic left in
      let d = calls.given_left m l o w o' w' r c left e in
      let ts : List (List ℕ) = threads_of (take c o') in
      let (a, f) = only (apart_of (take c o')) ts d.reported in
      let size : length ts ≡ k = d.reported.paired.same ∙ ap (weight (graph_of l)) a ∙ eqb→eq (weight (graph_of l) s) k q.0 in (
        c,
        e,
        ap (λ (ws : List ℕ). get_or ws 0 0) d.words ∙ report_head (apart_of (take c o')) ts ∙ ap (word 4) size,
        a,
        size,
        λ t i v j. member_right v t (each_right (λ v. member v t) through (each_right (λ t. each (λ v. member v t) through) ts f t i) v j),
      )

  loop_said : (p : ℕ) (ws : List ℕ) → T (said_test l (loop p ws)) → Shown l (loop p ws) o w o' w' r
  unfolding said_test
  loop_said p ws h enough =
      let shows : List ℕ → Bool = λ c. eqb (length c) p && same (loop_words c) ws in
      let named : List ℕ = map number (drop 1 ws) in
      let q = both (loop_test (graph_of l) named) (each shows (loops (graph_of l))) h in
      let (k, e) = calls.loop_refused m l o w o' w' r named (passes enough) (loop_right (graph_of l) named q.0) left in
      let d = calls.refused_left m l o w o' w' r k left e in
      let c : List ℕ = d.loop in
      let f = both (eqb (length c) p) (same (loop_words c) ws)
      (each_right shows (loops (graph_of l)) q.1 c (loops_all (graph_of l) c d.shown)) in
      let place : k ≡ p = sym d.count ∙ eqb→eq (length c) p f.0 in
      let words : loop_words c ≡ ws = same_right (loop_words c) ws f.1 in
      (e ∙ ap (refused 13) place, d.begins.1 ∙ ap (λ (x : List ℕ). x ++ drop (length x) o) words, d.work)

  short_said : (k p : ℕ) → T (said_test l (short k p)) → Shown l (short k p) o w o' w' r
  unfolding said_test
  short_said k p h e =
      let need : ℕ = report_need (graph_of l).n (voices_count l) in
      let q = both (not (leb need k)) (eqb need p) h in
      let few : length o < need = rw e (nleb→lt need k q.0) in
      let asks : asked m report_needs l (length o) (length w) ≡ refused 11 p =
      asked_read m report_needs l (length o) (length w) (graph_of l).n (heard_count l) read
      ∙ rw (lt-leb need (length o) few) (ap (refused 11) (eqb→eq need p q.1)) in
      let f = calls.asked_refused m l o w o' w' r 11 p left asks in
      let d = calls.refused_asked m l o w o' w' r 11 p (omega arith) left f in
      (f, d.1, d.2)

  pub said_right : (s : Said) → T (said_test l s) → Shown l s o w o' w' r
  said_right (report ws) = report_said ws
  said_right (parts k s through) = parts_said k s through
  said_right (loop p ws) = loop_said p ws
  said_right (short k p) = short_said k p
