-- The scope's whole example, a log with pauses and logs with voices words, read by the definitions.
use mathlib.Core.Path.{◌≡◌, refl}
use mathlib.Core.Logic.Dec
use mathlib.Core.List.{List, [], ◌∷◌}
use Prim.Native.Nat.{ℕ}
use native.Mathlib.Decide.{ℕ_discrete}
use Rattle.logs.specs.Answer.{given, refused}
use Rattle.logs.specs.Content.{pauses_of, least, least_pause, counting}
use Rattle.logs.specs.Log.{service, onwards, marked, voices_asked, voices_onwards, marks_of, voices_by, group_word, end_word, questions, heard_from, content_of, graph_of}

whole : List ℕ
whole = 0x10000005 ∷ 0x20000000 ∷ 0x30000001 ∷ 0x20000002 ∷ 0x30000003 ∷ 0xF0000002 ∷ []

whole_read : questions service whole ≡ given (5, 2)
unfolding whole questions voices_onwards onwards group_word end_word
whole_read = refl

whole_links : (graph_of whole).links ≡ (0, 1) ∷ (2, 3) ∷ []
unfolding whole heard_from counting
whole_links = refl

-- 0-1 after 45 minutes, 0-2 after 4,095, and 0-1 again, after 10
paused : List ℕ
paused = 0x10000003 ∷ 0x20000000 ∷ 0x302D0001 ∷ 0x3FFF0002 ∷ 0x300A0001 ∷ 0xF0000003 ∷ []

paused_read : questions service paused ≡ given (3, 3)
unfolding paused questions voices_onwards onwards group_word end_word
paused_read = refl

paused_heard : (content_of paused).heard
    ≡ record { from = 0; to = 1; pause = 45 } ∷ record { from = 0; to = 2; pause = 4095 } ∷ record { from = 0; to = 1; pause = 10 } ∷ []
unfolding paused heard_from
paused_heard = refl

paused_least : least_pause (content_of paused) 0 1 ≡ 10
unfolding paused heard_from pauses_of least Dec.and ℕ_discrete
paused_least = refl

-- the episode alone is asked: 3 is none of 3, whatever the pause
paused_out : questions service (0x10000003 ∷ 0x20000000 ∷ 0x302D0003 ∷ 0xF0000001 ∷ []) ≡ refused 7 2
unfolding questions voices_onwards onwards group_word end_word
paused_out = refl

-- 0 with two voices and 2 with none, and the link 0-1
voiced : List ℕ
voiced = 0x10000003 ∷ 0x90000002 ∷ 0x90020000 ∷ 0x20000000 ∷ 0x30000001 ∷ 0xF0000001 ∷ []

voiced_read : questions service voiced ≡ given (3, 1)
unfolding voiced questions voices_onwards voices_asked marked onwards group_word end_word
voiced_read = refl

voiced_voices : ◌≡◌ {A = ℕ × ℕ × ℕ} ((content_of voiced).voices 0, (content_of voiced).voices 1, (content_of voiced).voices 2) (2, 1, 0)
unfolding voiced marks_of voices_by
voiced_voices = refl

-- n is asked first, then the episode, the voices, and whether the episode has had a voices word; behind a group it is a word of another kind
module _ where
  many : questions service (0x10000079 ∷ 0x90030079 ∷ 0xF0000000 ∷ []) ≡ refused 20 1
  unfolding questions voices_onwards voices_asked
  many = refl

  most : questions service (0x10000078 ∷ 0x90020077 ∷ 0xF0000000 ∷ []) ≡ given (120, 0)
  unfolding questions voices_onwards voices_asked marked onwards end_word
  most = refl

  outside : questions service (0x10000002 ∷ 0x90030002 ∷ 0xF0000000 ∷ []) ≡ refused 7 1
  unfolding questions voices_onwards voices_asked
  outside = refl

  three : questions service (0x10000002 ∷ 0x90020001 ∷ 0x90030001 ∷ 0xF0000000 ∷ []) ≡ refused 19 2
  unfolding questions voices_onwards voices_asked marked
  three = refl

  again : questions service (0x10000002 ∷ 0x90010001 ∷ 0x90020001 ∷ 0xF0000000 ∷ []) ≡ refused 21 2
  unfolding questions voices_onwards voices_asked marked
  again = refl

  behind_group : questions service (0x10000002 ∷ 0x20000000 ∷ 0x30000001 ∷ 0x90020001 ∷ 0xF0000001 ∷ []) ≡ refused 4 3
  unfolding questions voices_onwards onwards group_word
  behind_group = refl

  no_from : questions service (0x10000002 ∷ 0x90020001 ∷ 0x30000001 ∷ 0xF0000001 ∷ []) ≡ refused 5 2
  unfolding questions voices_onwards voices_asked marked onwards group_word
  no_from = refl
