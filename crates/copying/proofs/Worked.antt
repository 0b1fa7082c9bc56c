-- Fair copies worked through.
use mathlib.Core.Path.{◌≡◌, refl}
use mathlib.Core.Logic.Dec
use mathlib.Core.List.{[], ◌∷◌}
use Prim.Native.Nat.{ℕ}
use native.Mathlib.Decide.{ℕ_discrete}
use Rattle.paths.specs.Passing.{passing}
use Rattle.paths.specs.Links.{linked}
use Rattle.logs.specs.Content.{Heard, pauses_of, least}
use Rattle.logs.specs.Log.{voices_by}
use Rattle.copying.specs.FairCopy.{group, groups, group_links, voices_words, copy_words, fair_words}

abbrev heard : ℕ → ℕ → ℕ → Heard
heard a b p = record { from = a; to = b; pause = p }

-- no links: the head and the end
no_links : fair_words (record { version = 0; n = 2; voices = λ _. 1; heard = [] }) ≡ 0x10000002 ∷ 0xF0000000 ∷ []
unfolding linked passing group groups group_links voices_words copy_words
no_links = refl

-- links out of order, one of them twice, one a loop; episode 1 has no links
out_of_order : fair_words (record { version = 0; n = 3; voices = λ _. 1; heard = heard 2 0 0 ∷ heard 0 2 0 ∷ heard 0 0 0 ∷ heard 0 2 0 ∷ [] })
    ≡ 0x10000003 ∷ 0x20000000 ∷ 0x30000000 ∷ 0x30000002 ∷ 0x20000002 ∷ 0x30000000 ∷ 0xF0000003 ∷ []
unfolding linked passing pauses_of least group groups group_links voices_words copy_words Dec.and ℕ_discrete
out_of_order = refl

-- 0-2 with the pauses 45, 7 and 9, of which the least is in the middle; 0-1 with 4,095: the to words rise by episode, not by number.
-- The log is of version 1, and the copy has its version and the link that does not count
paused_links : fair_words (record { version = 1; n = 3; voices = λ _. 1; heard = heard 0 2 45 ∷ heard 0 1 4095 ∷ heard 0 2 7 ∷ heard 0 2 9 ∷ [] })
    ≡ 0x11000003 ∷ 0x20000000 ∷ 0x3FFF0001 ∷ 0x30070002 ∷ 0xF0000002 ∷ []
unfolding linked passing pauses_of least group groups group_links voices_words copy_words Dec.and ℕ_discrete
paused_links = refl

-- episode 0 with 0 voices, episode 2 with 2 and one each for the others: the voices words rise by episode, and one voice is not written
marked_episodes : fair_words (record { version = 0; n = 4; voices = voices_by ((2, 2) ∷ (1, 1) ∷ (0, 0) ∷ []); heard = heard 0 2 0 ∷ [] })
    ≡ 0x10000004 ∷ 0x90000000 ∷ 0x90020002 ∷ 0x20000000 ∷ 0x30000002 ∷ 0xF0000001 ∷ []
unfolding linked passing pauses_of least group groups group_links voices_words voices_by copy_words Dec.and ℕ_discrete
marked_episodes = refl
