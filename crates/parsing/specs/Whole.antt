-- A whole report by its layout alone, and the steps of one of its threads. Ids, links and rising order are not looked at.
use Rattle.std.specs.Prelude.{◌≡◌, ◌⊎◌, ◌↔◌, List, [], map, ℕ, ◌+◌, ◌-◌, ◌≤◌, ◌<◌, ◌^◌, length, get_or, take, drop}
use Rattle.order.specs.Order.{All}
use Rattle.logs.specs.Words.{word, Small}
use Rattle.writing.specs.Layout.{report_words, threads_words, SmallThread}

-- a thread of the layout: it has a step, and words can hold its length and its steps
abbrev pub ThreadFits : List ℕ → Type 0
ThreadFits t = (1 ≤ length t) × SmallThread t

-- `ws` is a whole report with these apart words and threads: the words of the layout, with at most as many apart words as threads, and nothing behind
-- them. Each number fits a word.
pub record IsReport (ws apart : List ℕ) (threads : List (List ℕ)) : Type 0 where
  pub words : ws ≡ report_words apart threads
  pub few : length apart ≤ length threads
  pub width_fits : Small (length threads)
  pub apart_fits : All Small apart
  pub threads_fit : All ThreadFits threads
  pub count_fits : length ws ≤ 2 ^ 28

-- a whole report
abbrev pub Whole : List ℕ → Type 0
Whole ws = (apart : List ℕ) × (threads : List (List ℕ)) × IsReport ws apart threads

-- a whole report that has a thread `i`: i is below k
abbrev pub HasThread : List ℕ → ℕ → Type 0
HasThread ws i = (apart : List ℕ) × (threads : List (List ℕ)) × IsReport ws apart threads × (i < length threads)

-- a whole report that has no thread `i`: i is not below k
abbrev pub HasNoThread : List ℕ → ℕ → Type 0
HasNoThread ws i = (apart : List ℕ) × (threads : List (List ℕ)) × IsReport ws apart threads × (length threads ≤ i)

-- `r` is the number that asking for thread `i` of the words `ws` gives: 0, 16 or 17. The place of a refusal is 0.
pub record ThreadNumber (ws : List ℕ) (i r : ℕ) : Type 0 where
  pub one_of : (r ≡ 0) ⊎ (r ≡ 16) ⊎ (r ≡ 17)
  pub given : (r ≡ 0) ↔ HasThread ws i
  pub no_report : (r ≡ 16) ↔ (Whole ws → ⊥)
  pub no_thread : (r ≡ 17) ↔ HasNoThread ws i

-- `s` is the stretch that asking for thread `i` of the words `ws` gives: a part of them, which is the steps of thread `i` or, where the
-- number is a refusal's, empty.
pub record ThreadSteps (ws : List ℕ) (i : ℕ) (s : List ℕ) : Type 0 where
  pub part : (a : ℕ) × (b : ℕ) × (a ≤ b) × (b ≤ length ws) × (s ≡ take (b - a) (drop a ws))
  pub steps : (apart : List ℕ) (threads : List (List ℕ)) → IsReport ws apart threads → i < length threads → s ≡ map (word 7) (get_or threads i [])
  pub empty : (HasThread ws i → ⊥) → s ≡ []

-- where thread `i` stands in a report's words: behind the width, the apart set and the threads before it
abbrev pub thread_place : List ℕ → List (List ℕ) → ℕ → ℕ
thread_place apart threads i = length apart + 1 + length (threads_words (take i threads))

-- The same stretch by its ends, from `a` on and before `b`: behind the word of thread `i`, or 0 and 0 where there is no such thread.
pub record ThreadStretch (ws : List ℕ) (i a b : ℕ) : Type 0 where
  pub rises : a ≤ b
  pub inside : b ≤ length ws
  pub steps : ThreadSteps ws i (take (b - a) (drop a ws))
  pub starts : (apart : List ℕ) (threads : List (List ℕ)) → IsReport ws apart threads → i < length threads → a ≡ thread_place apart threads i + 1
  pub nowhere : (HasThread ws i → ⊥) → (a ≡ 0) × (b ≡ 0)
