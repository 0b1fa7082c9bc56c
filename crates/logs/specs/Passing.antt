-- What the iterator over the groups of a log gives.
use Rattle.std.specs.Prelude.{◌≡◌, Option, MatchOption, false, ◌+◌, ◌-◌, ◌≤◌, length, get_or, take, drop}
use Rattle.logs.specs.Words.{number}
use Rattle.logs.specs.Log.{to_before_last}
use Rattle.logs.specs.Groups.{ToWords}
use Rattle.logs.specs.declared.passed.Group.{Group}
use Rattle.logs.specs.declared.passed.Groups.{Groups}

-- the group that starts where `s` is, with `t` behind it
pub record Given (s : Groups) (g : Group) (t : Groups) : Type 0 where
  pub same : t.log ≡ s.log
  pub inner : s.at + 2 ≤ length s.log.words.now
  pub from : g.from ≡ number (get_or s.log.words.now s.at 0)
  pub to_words : g.to_words.now ≡ take (t.at - (s.at + 1)) (drop (s.at + 1) s.log.words.now)
  pub words : ToWords s.log.words.now (s.at + 1) t.at
  pub end : to_before_last s.log.words.now t.at ≡ false

-- none where the last word stands
abbrev pub GivesGroup : Groups → Option Group → Groups → Type 0
GivesGroup s r t = MatchOption r ((s.at + 1 ≡ length s.log.words.now) × (t ≡ s)) (λ g. Given s g t)
