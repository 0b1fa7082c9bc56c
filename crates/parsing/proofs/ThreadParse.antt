-- One thread and several threads that stand behind each other: what their words are, and where they end.
use mathlib.Core.Path.{◌≡◌, refl, sym, ap, ap₂, subst, ◌∙◌}
use mathlib.Core.Bool.{Bool, true, false}
use mathlib.Core.Logic.{⊎_elim}
use mathlib.Core.List.Memᴰ
use mathlib.Core.List.Memᴰ.{append_cases}
use mathlib.Core.List.Memᴰ.{eq_of_singleton}
use mathlib.Core.List.Memᴰ.{head as here}
use mathlib.Core.List.{
  List,
  [],
  ◌∷◌,
  ◌++◌,
  map,
  append_assoc,
  Memᴰ as Mem,
}
use Prim.Native.Nat.{ℕ, zero, suc, ◌+◌, ◌-◌, ◌≤◌, ◌<◌}
use native.Mathlib.Omega.{arith}
use lib.ListN.{length, get_or, take, drop, length-append, length-drop, take-append-drop}
use lib.Seq.{split_at, drop-cons, drop_at, drop-drop, get_or-drop, length-take-le}
use Rattle.std.specs.Bool.{then_some}
use Rattle.std.specs.Option.{unwrap_or}
use Rattle.order.specs.Order.{All}
use Rattle.order.proofs.Lists.{all_nil}
use Rattle.logs.specs.Words.{kind, number, word, Small}
use Rattle.writing.specs.Layout.{thread_words, threads_words}
use Rattle.writing.proofs.Layouts.{threads_words_snoc, length_thread}
use Rattle.parsing.specs.Whole.{ThreadFits}
use Rattle.parsing.specs.Parsing.{OfKind, KindTest, ThreadEnd, ThreadsEnd}
use Rattle.parsing.proofs.Runs.{run_words, run_kinds, part_test}

-- what is behind the words that stand at `at`
pub drop_behind : (ws : List ℕ) (at : ℕ) (front rest : List ℕ) → drop at ws ≡ front ++ rest → drop (at + length front) ws ≡ rest
drop_behind ws at front rest e =
    sym (drop-drop (length front) at ws) ∙ ap (drop (length front)) e ∙ drop_at front rest (length front) refl

-- the first of them
pub get_d_first : (ws : List ℕ) (at x : ℕ) (rest : List ℕ) → drop at ws ≡ x ∷ rest → get_or ws at 0 ≡ x
get_d_first ws at x rest e =
    let same : at ≡ at + 0 = omega arith in
    ap (λ (i : ℕ). get_or ws i 0) same ∙ sym (get_or-drop at ws 0 0) ∙ ap (λ (l : List ℕ). get_or l 0 0) e

-- how many words they leave
pub length_behind : (ws : List ℕ) (at : ℕ) (front rest : List ℕ) → 0 < length front → drop at ws ≡ front ++ rest
    → length ws ≡ at + length front + length rest
length_behind ws at front rest some e =
    let long : length (drop at ws) ≡ length front + length rest = ap length e ∙ length-append front rest in
    omega (arith, length-drop at ws)

-- A thread of `c` steps at `at`, word by word; and the same as its words at once.
pub record ThreadHere (ws : List ℕ) (at c : ℕ) : Type 0 where
  pub some : 1 ≤ c
  pub fits : at + 1 + c ≤ length ws
  pub kind_six : kind (get_or ws at 0) ≡ 6
  pub count : number (get_or ws at 0) ≡ c
  pub steps : OfKind ws (at + 1) (at + 1 + c) 7

pub thread_here : (ws : List ℕ) (at : ℕ) (t rest : List ℕ) → ThreadFits t → drop at ws ≡ thread_words t ++ rest → ThreadHere ws at (length t)
unfolding thread_words
thread_here ws at t rest (some, small) e =
    let first : get_or ws at 0 ≡ word 6 (length t) = get_d_first ws at (word 6 (length t)) (map (word 7) t ++ rest) e in
    let few : Small (length t) = small.0 in
    let size = length_thread t in
    record {
      some = some;
      fits = omega (arith, length_behind ws at (thread_words t) rest (omega arith) e);
      kind_six = omega arith;
      count = omega arith;
      steps = run_kinds 7 ws (at + 1) t rest small.1 (drop_behind ws at (word 6 (length t) ∷ []) (map (word 7) t ++ rest) e);
    }

here_thread : (ws : List ℕ) (at c : ℕ) → ThreadHere ws at c
    → (t : List ℕ) × ThreadFits t × (drop at ws ≡ thread_words t ++ drop (at + 1 + c) ws)
unfolding thread_words
here_thread ws at c h =
    let (t, size, small, words) = run_words 7 c ws (at + 1) h.fits h.steps in
    let same : suc at ≡ at + 1 = omega arith in
    let first : get_or ws at 0 ≡ word 6 (length t) = omega (arith, h.kind_six, h.count) in (
      t,
      (omega (arith, h.some), (omega (arith, h.count), small)),
      drop-cons ws at 0 (omega (arith, h.fits))
          ∙ ap₂ (λ (x : ℕ) (l : List ℕ). x ∷ l) first (ap (λ (i : ℕ). drop i ws) same ∙ words),
    )

-- no thread stands at `at`
pub no_thread : (ws : List ℕ) (at : ℕ) → ((c : ℕ) → ThreadHere ws at c → ⊥) → ThreadEnd ws at 0
no_thread ws at none =
    record {
      within = omega arith;
      found = λ h. absurd (omega arith);
      behind = λ t rest fits e. absurd (none (length t) (thread_here ws at t rest fits e));
    }

-- a thread of `c` steps stands at `at`
pub one_thread : (ws : List ℕ) (at c : ℕ) → ThreadHere ws at c → ThreadEnd ws at (at + 1 + c)
one_thread ws at c h =
    record {
      within = h.fits;
      found = λ s. here_thread ws at c h;
      behind = λ t rest fits e. omega (arith, h.count, (thread_here ws at t rest fits e).count, length_thread t);
    }

-- where all but the steps' kinds are those of a thread of `c` steps, the test of these kinds decides
pub tested_thread : (ws steps : List ℕ) (at c : ℕ) (r : Bool) → 1 ≤ c → at + 1 + c ≤ length ws → kind (get_or ws at 0) ≡ 6
    → number (get_or ws at 0) ≡ c → steps ≡ take (at + 1 + c - (at + 1)) (drop (at + 1) ws) → KindTest steps 0 (length steps) 7 r
    → ThreadEnd ws at (unwrap_or (then_some r (at + 1 + c)) 0)
tested_thread ws steps at c true some fits six long is test =
    one_thread ws at c (record {
      some = some;
      fits = fits;
      kind_six = six;
      count = long;
      steps = (part_test ws steps (at + 1) (at + 1 + c) 7 true is (omega arith) fits test).all refl;
    })
tested_thread ws steps at c false some fits six long is test =
    no_thread ws at
    (λ n here.
    let count = here.count in
    (part_test ws steps (at + 1) (at + 1 + c) 7 false is (omega arith) fits test).not_all refl
    (λ j le lt. here.steps j (omega arith) (omega arith)))

-- The threads before `i`, thread `i` and those behind it.
threads_split : (ts : List (List ℕ)) (i : ℕ) → i < length ts
    → threads_words ts ≡ threads_words (take i ts) ++ (thread_words (get_or ts i []) ++ threads_words (drop (suc i) ts))
unfolding threads_words
threads_split [] i h = absurd (omega arith)
threads_split (t ∷ ts) zero h = refl
threads_split (t ∷ ts) (suc i) h =
    ap (λ (l : List ℕ). thread_words t ++ l) (threads_split ts i (omega arith))
    ∙ sym (append_assoc (thread_words t) (threads_words (take i ts)) (thread_words (get_or ts i []) ++ threads_words (drop (suc i) ts)))

module _ (ts : List (List ℕ)) (i : ℕ) (lt : i < length ts) (fit : All ThreadFits ts) where
  fit_before : All ThreadFits (take i ts)
  fit_before t m = fit t (subst (Mem t) (take-append-drop i ts) (Memᴰ.append_left (drop i ts) m))

  pub fit_at : ThreadFits (get_or ts i [])
  fit_at = fit (get_or ts i []) (subst (Mem (get_or ts i [])) (sym (split_at ts i [] lt)) (Memᴰ.append_right (take i ts) (here refl)))

-- Where the first `i` threads end, thread `i` stands.
pub thread_behind : (ws : List ℕ) (at i place : ℕ) → ThreadsEnd ws at i place → (ts : List (List ℕ)) (rest : List ℕ) → i < length ts
    → All ThreadFits ts → drop at ws ≡ threads_words ts ++ rest
    → (place ≡ at + length (threads_words (take i ts)))
    × (drop place ws ≡ thread_words (get_or ts i []) ++ (threads_words (drop (suc i) ts) ++ rest))
thread_behind ws at i place ends ts rest lt fit e =
    let before : List ℕ = threads_words (take i ts) in
    let thread : List ℕ = thread_words (get_or ts i []) in
    let others : List ℕ = threads_words (drop (suc i) ts) in
    let split : drop at ws ≡ before ++ (thread ++ (others ++ rest)) =
    e ∙ ap (λ (l : List ℕ). l ++ rest) (threads_split ts i lt) ∙ append_assoc before (thread ++ others) rest
    ∙ ap (λ (l : List ℕ). before ++ l) (append_assoc thread others rest) in
    let there : place ≡ at + length before =
    ends.behind (take i ts) (thread ++ (others ++ rest)) (length-take-le i ts (omega arith)) (fit_before ts i lt fit) split in
    (there, ap (λ (x : ℕ). drop x ws) there ∙ drop_behind ws at before (thread ++ (others ++ rest)) split)

-- no thread has words
no_words : (ts : List (List ℕ)) → length ts ≡ 0 → length (threads_words ts) ≡ 0
unfolding threads_words
no_words [] e = refl
no_words (t ∷ ts) e = absurd (omega arith)

-- no thread: they end where they start
pub threads_none : (ws : List ℕ) (at : ℕ) → at ≤ length ws → ThreadsEnd ws at 0 at
unfolding threads_words
threads_none ws at le =
    record {
      within = le;
      found = λ h. ([], refl, all_nil _, refl);
      behind = λ ts rest size fit e. omega (arith, no_words ts size);
    }

-- one more thread
pub threads_more : (ws : List ℕ) (at j place r : ℕ) → 0 < place → ThreadsEnd ws at j place → ThreadEnd ws place r → 0 < r
    → ThreadsEnd ws at (j + 1) r
threads_more ws at j place r some ends end more = record { within = end.within; found = λ h. found; behind = behind }
  where
    found : (ts : List (List ℕ)) × (length ts ≡ j + 1) × All ThreadFits ts × (drop at ws ≡ threads_words ts ++ drop r ws)
    found =
        let (ts, size, fit, words) = ends.found some in
        let (t, t-fits, t-words) = end.found more in (
          ts ++ t ∷ [],
          omega (arith, length-append ts (t ∷ [])),
          λ u m. ⊎_elim (fit u) (λ n. subst ThreadFits (sym (eq_of_singleton n)) t-fits) (append_cases ts m),
          words ∙ ap (λ (l : List ℕ). threads_words ts ++ l) t-words ∙ sym (append_assoc (threads_words ts) (thread_words t) (drop r ws))
              ∙ ap (λ (l : List ℕ). l ++ drop r ws) (sym (threads_words_snoc ts t)),
        )

    behind : (ts : List (List ℕ)) (rest : List ℕ) → length ts ≡ j + 1 → All ThreadFits ts → drop at ws ≡ threads_words ts ++ rest
        → r ≡ at + length (threads_words ts)
    behind ts rest size fit e =
        let lt : j < length ts = omega arith in
        let others : List (List ℕ) = drop (suc j) ts in
        let thread : List ℕ = thread_words (get_or ts j []) in
        let at_place = thread_behind ws at j place ends ts rest lt fit e in
        let before : place ≡ at + length (threads_words (take j ts)) = at_place.0 in
        let last : r ≡ place + length thread =
        end.behind (get_or ts j []) (threads_words others ++ rest) (fit_at ts j lt fit) at_place.1 in
        let none : length (threads_words others) ≡ 0 = no_words others (omega (arith, length-drop (suc j) ts)) in
        omega (
          arith,
          ap length (threads_split ts j lt),
          length-append (threads_words (take j ts)) (thread ++ threads_words others),
          length-append thread (threads_words others),
        )

-- a thread is missing
pub threads_missing : (ws : List ℕ) (at k j place : ℕ) → j < k → 0 < place → ThreadsEnd ws at j place → ThreadEnd ws place 0
    → ThreadsEnd ws at k 0
threads_missing ws at k j place lt some ends end =
    record {
      within = omega arith;
      found = λ h. absurd (omega arith);
      behind = λ ts rest size fit e.
          let few : j < length ts = omega arith in
          let words = (thread_behind ws at j place ends ts rest few fit e).1 in
          absurd (omega (arith, end.behind (get_or ts j []) (threads_words (drop (suc j) ts) ++ rest) (fit_at ts j few fit) words));
    }
