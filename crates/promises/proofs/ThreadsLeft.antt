-- The threads of a whole report, one by one; and that a report call leaves a whole report.
use mathlib.Core.Path.{◌≡◌, ap, ◌∙◌}
use mathlib.Core.List.{List, [], map}
use Prim.Native.Nat.{ℕ, ◌≤◌, ◌<◌, ◌^◌}
use native.Mathlib.Omega.{arith}
use lib.ListN.{length, take, get_or}
use Rattle.order.specs.Order.{Chain, single, more}
use Rattle.logs.specs.Words.{number, word, Small}
use Rattle.logs.specs.Log.{graph_of, heard_count, voices_count}
use Rattle.logs.specs.declared.Ceilings.{Ceilings}
use Rattle.logs.proofs.Laws.{few_episodes}
use Rattle.writing.specs.Layout.{apart_of, threads_of}
use Rattle.writing.proofs.Layouts.{numbers_of}
use Rattle.writing.proofs.Reporting.{report_few}
use Rattle.parsing.specs.Whole.{IsReport, Whole, ThreadNumber, ThreadSteps}
use Rattle.parsing.proofs.ThreadParse.{fit_at}
use Rattle.report.proofs.Reported.{ReportLeft, apart_small, threads_small, threads_few, reported_fits, report_accepted}
use Rattle.paths.proofs.Fits.{weight_some}
use Rattle.threads.proofs.ThreadCalls.{count_of, has_below}

-- what the two calls say of thread `i` of the words `ws`
module _ (ws : List ℕ) (i r : ℕ) (s : List ℕ) (asked : ThreadNumber ws i r) (steps : ThreadSteps ws i s) where
  pub report_refused : (Whole ws → ⊥) → (r ≡ 16) × (s ≡ [])
  report_refused none = (asked.no_report.1 none, steps.empty (λ has. none (has.0, has.1, has.2)))

  module _ (apart : List ℕ) (threads : List (List ℕ)) (report : IsReport ws apart threads) where
    pub thread_given : i < length threads → (r ≡ 0) × (s ≡ map (word 7) (get_or threads i [])) × (map number s ≡ get_or threads i [])
    thread_given lt =
        let t : List ℕ = get_or threads i [] in
        let words : s ≡ map (word 7) t = steps.steps apart threads report lt in
        (asked.given.1 (apart, threads, report, lt), words, ap (map number) words ∙ numbers_of 7 t (fit_at threads i lt report.threads_fit).1.1)

    pub thread_refused : length threads ≤ i → (r ≡ 17) × (s ≡ [])
    thread_refused le = (
      asked.no_thread.1 (apart, threads, report, le),
      steps.empty (λ has. omega (arith, has_below ws i has, count_of ws i apart threads report)),
    )

-- a chain has an element
chain_some : {R : ℕ → ℕ → Type 0} {t : List ℕ} → Chain R t → 1 ≤ length t
chain_some single = omega arith
chain_some (more r p) = omega arith

-- of the words that a report call left, `take c o'`, at ceilings below 256 episodes
module _ (m : Ceilings) (l o w o' w' : List ℕ) (c : ℕ) (few : m.episodes < 256) (d : ReportLeft m l o w o' w' c) where
  -- the graph has few episodes, and the report few words
  few_left : (graph_of l).n < 256
  few_left =
      let accepted = report_accepted m l o w o' w' c d in
      omega (arith, few_episodes m l (graph_of l).n (heard_count l) accepted.read)

  small_left : Small (graph_of l).n
  small_left = omega (arith, few_left)

  count_left : length (take c o') ≤ 2 ^ 28
  count_left =
      let fits = reported_fits m l _ _ (report_accepted m l o w o' w' c d).read (apart_of (take c o')) (threads_of (take c o')) d.reported in
      omega (arith, ap length d.words, report_few (graph_of l).n (voices_count l) few_left)

  many_left : Small (length (threads_of (take c o')))
  many_left = threads_few m l (report_accepted m l o w o' w' c d).read d.reported

  pub left_whole : IsReport (take c o') (apart_of (take c o')) (threads_of (take c o'))
  left_whole =
      record {
        words = d.words;
        few = omega (arith, weight_some (graph_of l) (apart_of (take c o')) d.reported.furthest.apart.voiced, d.reported.paired.same);
        width_fits = many_left;
        apart_fits = apart_small small_left many_left d.reported;
        threads_fit = λ t n. (chain_some (d.reported.cover.threads t n).path, threads_small small_left many_left d.reported t n);
        count_fits = count_left;
      }
