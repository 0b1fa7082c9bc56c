-- Laws of a buffer that begins with bytes which have been written: nothing yet, one byte more, and a part behind them.
use mathlib.Core.Path.{◌≡◌, refl, sym, ap, subst, ◌∙◌}
use mathlib.Core.List.{List, [], ◌∷◌, ◌++◌, append-nil, append_assoc}
use Prim.Native.Nat.{ℕ, ◌+◌, ◌-◌, ◌/◌, ◌%◌, ◌^◌, ◌≤◌, ◌<◌}
use native.Mathlib.Omega.{arith}
use lib.ListN.{length, set, take, drop, length-append, length-drop}
use Rattle.std.specs.Prelude.{decimal}
use Rattle.std.proofs.lemmas.Fmt.{decimal_digit, decimal_step}
use Rattle.writing.proofs.Buffers.{length_snoc, begins_none, begins_length, begins_more, begins_part, lent_part, lent_rest}
use Rattle.text.specs.Put.{Put, Putting}

-- nothing has been written
pub put_none : (t : List ℕ) → Put [] t t 0
put_none t = record { size = refl; words = begins_none t }

module _ {ws t t' : List ℕ} {r : ℕ} (p : Put ws t t' r) where
  pub put_length : length t' ≡ length t
  put_length = begins_length ws t t' p.words

  -- one byte more
  pub put_byte : (b : ℕ) → r < length t' → Put (ws ++ b ∷ []) t (set t' r b) (r + 1)
  put_byte b room =
      record {
        size = omega (arith, p.size, length_snoc ws b);
        words = begins_more ws t t' p.words r b p.size (omega (arith, put_length, room));
      }

  -- other bytes behind them
  pub put_behind : {vs q : List ℕ} {s : ℕ} → Put vs (drop r t') q s → Put (ws ++ vs) t (take r t' ++ q) (r + s)
  put_behind {vs} {q} {s} h =
      record { size = omega (arith, p.size, h.size, length-append ws vs); words = begins_part ws t t' p.words vs q r p.size h.words }

-- A text that is written part by part.
pub putting_none : (whole t : List ℕ) → Putting whole whole t t 0
putting_none whole t = record { done = []; put = put_none t; split = refl }

pub putting_all : {whole rest t t' : List ℕ} {r : ℕ} → Putting whole rest t t' r → rest ≡ [] → Put whole t t' r
putting_all {t = t} {t' = t'} {r = r} p e =
    subst (λ (ws : List ℕ). Put ws t t' r) (sym (append-nil p.done) ∙ ap (λ (l : List ℕ). p.done ++ l) (sym e) ∙ p.split) p.put

module _ {whole rest t t' : List ℕ} {r : ℕ} (p : Putting whole rest t t' r) where
  pub putting_length : length t' ≡ length t
  putting_length = put_length p.put

  -- nothing is written of what gives no text
  pub putting_same : {rest' : List ℕ} → rest ≡ rest' → Putting whole rest' t t' r
  putting_same e = rw (← e) p

  module _ (room : length whole ≤ length t) where
    -- there is room for what has not been written
    pub putting_room : r + length rest ≤ length t'
    putting_room = omega (arith, room, putting_length, p.put.size, ap length p.split, length-append p.done rest)

    -- in the part that is lent
    pub putting_lent : (part behind : List ℕ) → rest ≡ part ++ behind → length part ≤ length (take (length t' - r) (drop r t'))
    putting_lent part behind e =
        rw (lent_part t' r) (omega (arith, putting_room, ap length e, length-append part behind, length-drop r t'))

  -- the next part is written, and the part that was lent comes back
  pub putting_more : (part behind : List ℕ) → rest ≡ part ++ behind → {q t'' : List ℕ} {s r' : ℕ} → Put part (take (length t' - r) (drop r t')) q s
      → t'' ≡ take r t' ++ (q ++ drop (length t' - r) (drop r t')) → r' ≡ r + s → Putting whole behind t t'' r'
  putting_more part behind e {q} {t''} {s} {r'} h back count =
      record {
        done = p.done ++ part;
        put = rw (back, count, lent_rest t' q r) (put_behind p.put (rw (lent_part t' r) at h));
        split = append_assoc p.done part behind ∙ ap (λ (l : List ℕ). p.done ++ l) (sym e) ∙ p.split;
      }

-- a part, and another in the part that was lent behind it
pub put_both : {a b t t₁ t₂ : List ℕ} {i j : ℕ} → Put a t t₁ i → Put b (take (length t₁ - i) (drop i t₁)) t₂ j
    → Put (a ++ b) t (take i t₁ ++ (t₂ ++ drop (length t₁ - i) (drop i t₁))) (i + j)
put_both {t₁ = t₁} {t₂ = t₂} {i = i} p q = rw (lent_rest t₁ t₂ i) (put_behind p (rw (lent_part t₁ i) at q))

-- and a byte behind both
pub put_ended : {a b t t₁ t₂ : List ℕ} {i j : ℕ} (c : ℕ) → Put a t t₁ i → Put b (take (length t₁ - i) (drop i t₁)) t₂ j
    → length (a ++ b ++ c ∷ []) ≤ length t
    → Put (a ++ b ++ c ∷ []) t (set (take i t₁ ++ (t₂ ++ drop (length t₁ - i) (drop i t₁))) (i + j) c) (i + j + 1)
put_ended {a} {b} {t} {t₁} {t₂} {i} {j} c p q room =
    let all = put_both p q in
    let same : length (take i t₁ ++ (t₂ ++ drop (length t₁ - i) (drop i t₁))) ≡ length t = put_length all in
    let size : i + j ≡ length (a ++ b) = all.size in
    put_byte all c (omega (arith, length_snoc (a ++ b) c, same, size, room))

-- there is room for what is in front, and in the part that is lent for what is behind
pub room_front : (a b : List ℕ) {k : ℕ} → length (a ++ b) ≤ k → length a ≤ k
room_front a b room = omega (arith, room, length-append a b)

pub room_behind : {a t t₁ : List ℕ} {i : ℕ} → Put a t t₁ i → (b : List ℕ) → length (a ++ b) ≤ length t
    → length b ≤ length (take (length t₁ - i) (drop i t₁))
room_behind {a} {t} {t₁} {i} p b room =
    rw (lent_part t₁ i) (omega (arith, room, length-append a b, put_length p, p.size, length-drop i t₁))

-- A number's last digit, behind the digits before it.
pub record Front (n : ℕ) (t t' : List ℕ) (r : ℕ) : Type 0 where
  pub digits : List ℕ
  pub whole : decimal n ≡ digits ++ (48 + n % 10) ∷ []
  pub put : Put digits t t' r

pub front_none : (n : ℕ) (t : List ℕ) → n < 10 → Front n t t 0
front_none n t few =
    record { digits = []; whole = decimal_digit n few ∙ ap (λ (d : ℕ). (48 + d) ∷ []) (omega (arith, few)); put = put_none t }

pub front_more : (n : ℕ) (t t' : List ℕ) (r : ℕ) → 10 ≤ n → n < 2 ^ 64 → Put (decimal (n / 10)) t t' r → Front n t t' r
front_more n t t' r many fits p = record { digits = decimal (n / 10); whole = decimal_step n many fits; put = p }

-- the digits before the last need less room
pub front_shorter : (n : ℕ) → 10 ≤ n → n < 2 ^ 64 → {k : ℕ} → length (decimal n) ≤ k → length (decimal (n / 10)) ≤ k
front_shorter n many fits room = omega (arith, room, ap length (decimal_step n many fits), length_snoc (decimal (n / 10)) (48 + n % 10))

module _ {n : ℕ} {t t' : List ℕ} {r : ℕ} (f : Front n t t' r) (room : length (decimal n) ≤ length t) where
  pub front_room : r < length t'
  front_room = omega (arith, room, put_length f.put, ap length f.whole, f.put.size, length_snoc f.digits (48 + n % 10))

  pub front_put : Put (decimal n) t (set t' r (48 + n % 10)) (r + 1)
  front_put = rw f.whole (put_byte f.put (48 + n % 10) front_room)
