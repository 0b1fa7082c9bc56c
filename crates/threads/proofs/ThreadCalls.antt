-- What asking for a thread of a report's words gives, from what the parse finds.
use mathlib.Core.Path.{◌≡◌, refl, sym, ap₂, ◌∙◌}
use mathlib.Core.Logic.{inl, inr}
use mathlib.Core.List.{List}
use Prim.Native.Nat.{ℕ, ◌+◌, ◌-◌, ◌≤◌, ◌<◌}
use native.Mathlib.Omega.{arith}
use lib.ListN.{length, get_or, take, drop}
use Rattle.logs.specs.Words.{number}
use Rattle.parsing.specs.Whole.{IsReport, Whole, HasThread, HasNoThread, ThreadNumber, ThreadStretch}
use Rattle.parsing.specs.Parsing.{ThreadAt}
use Rattle.parsing.specs.Parsing.{Room}
use Rattle.parsing.proofs.Wholes.{report_head, thread_steps}

module _ (ws : List ℕ) (i : ℕ) where
  -- word 0 of a whole report has the number of its threads
  pub count_of : (apart : List ℕ) (threads : List (List ℕ)) → IsReport ws apart threads → length threads ≡ number (get_or ws 0 0)
  count_of apart threads report = sym (report_head ws apart threads report).1

  pub has_below : HasThread ws i → i < number (get_or ws 0 0)
  has_below (apart, threads, report, lt) = omega (arith, count_of apart threads report)

  has_not_below : HasNoThread ws i → number (get_or ws 0 0) ≤ i
  has_not_below (apart, threads, report, le) = omega (arith, count_of apart threads report)

  pub no_thread : Whole ws → number (get_or ws 0 0) ≤ i → ThreadNumber ws i 17
  no_thread whole le =
      record {
        one_of = inr (inr refl);
        given = (λ e. absurd (omega arith), λ has. absurd (omega (arith, has_below has)));
        no_report = (λ e. absurd (omega arith), λ none. absurd (none whole));
        no_thread = (λ e. (whole.0, whole.1, whole.2, omega (arith, count_of whole.0 whole.1 whole.2)), λ has. refl);
      }

  pub has_thread : Whole ws → i < number (get_or ws 0 0) → HasThread ws i
  has_thread (apart, threads, report) lt = (apart, threads, report, omega (arith, count_of apart threads report))

  pub a_thread : HasThread ws i → ThreadNumber ws i 0
  a_thread has =
      record {
        one_of = inl refl;
        given = (λ e. has, λ h. refl);
        no_report = (λ e. absurd (omega arith), λ none. absurd (none (has.0, has.1, has.2)));
        no_thread = (λ e. absurd (omega arith), λ none. absurd (omega (arith, has_below has, has_not_below none)));
      }

  -- the empty stretch, where there is no thread `i`
  pub no_stretch : (HasThread ws i → ⊥) → ThreadStretch ws i 0 0
  no_stretch none =
      record {
        rises = omega arith;
        inside = omega arith;
        steps = record {
          part = (0, 0, omega arith, omega arith, refl);
          steps = λ apart threads report lt. absurd (none (apart, threads, report, lt));
          empty = λ n. refl;
        };
        starts = λ apart threads report lt. absurd (none (apart, threads, report, lt));
        nowhere = λ n. (refl, refl);
      }

  -- the stretch of the thread that stands at `r`
  pub its_stretch : HasThread ws i → (r start end : ℕ) → ThreadAt ws i r → Room ws r → start ≡ r + 1 → end ≡ start + number (get_or ws r 0)
      → ThreadStretch ws i start end
  its_stretch has r start end there room first last =
      let long : end - start ≡ number (get_or ws r 0) = omega arith in
      let inside : end ≤ length ws = omega (arith, room.1) in
      record {
        rises = omega arith;
        inside = inside;
        steps = record {
          part = (start, end, omega arith, inside, refl);
          steps = λ apart threads report lt.
              ap₂ (λ (x : ℕ) (y : ℕ). take x (drop y ws)) long first ∙ thread_steps ws apart threads report i r lt there;
          empty = λ none. absurd (none has);
        };
        starts = λ apart threads report lt. omega (arith, (there apart threads report lt).0);
        nowhere = λ none. absurd (none has);
      }
