-- What each call of a port in memory does, as the traits ask it.
use Rattle.std.specs.Prelude.{◌≡◌, ◌<◌, ◌≤◌, ℕ, zero, suc, Bool, true, false, cond, ◌&&◌, ◌||◌, nat_eq, nat_lt, List, [], ◌∷◌, length, take, drop, Option, Some, Ok, Err}
use Rattle.std.specs.Io.KnownBytes.{IsAtEnd}
use Rattle.std.proofs.Common.{refl, sym, arith, take-append-drop, length-take, append-nil}
use Rattle.std.proofs.lemmas.Bool.Decides.{nat_tests}
use Rattle.bh_base.specs.Steps.{Step, Read, BadRead, Rose, Entry, is_empty, write_of, meets_end, ReadFacts, WriteFacts, ReadLeaves, WriteLeaves}
use Rattle.bh_base.specs.Memory.{PortView, next, piece_at, failed, MemRead, read_fails, read_count, after_read, after_failed_read, MemWrite, write_fails, write_count, after_write, after_failed_write, is_in}

abbrev pub port_left : PortView → Option (List ℕ)
port_left v = Some v.left

abbrev pub port_sent : PortView → Option (List ℕ)
port_sent v = Some v.sent

abbrev pub port_log : PortView → Option (List Entry)
port_log v = Some v.log

abbrev pub port_read_faults : PortView → ℕ
port_read_faults v = v.read_faults

abbrev pub port_write_faults : PortView → ℕ
port_write_faults v = v.write_faults

abbrev pub port_ended : PortView → Bool
port_ended v = is_empty v.left

pub next_later : (n : ℕ) → n ≤ next n
next_later n = omega arith

pub next_rose : (n : ℕ) → Rose n (next n)
next_rose n = omega arith

pub at_end : (v : PortView) → port_ended v ≡ true → IsAtEnd (port_left v)
at_end v e = empty v.left e
  where
    empty : (xs : List ℕ) → is_empty xs ≡ true → xs ≡ []
    empty [] e = refl
    empty (x ∷ xs) e = cc

piece_some : (pieces : List ℕ) (k len : ℕ) → 0 < len → 0 < piece_at pieces k len
piece_some pieces k len h = grind (arith, nat_tests)

some_read : (v : PortView) (len : ℕ) → 0 < len → 0 < length v.left → 0 < read_count v len
unfolding read_count
some_read v len h some = omega (arith, h, some, piece_some v.pieces (next v.reads) len h)

room_read : (v : PortView) (len : ℕ) → read_count v len ≤ len
unfolding read_count
room_read v len = omega arith

-- some of what is left would have been taken
pub taking_ends : (xs : List ℕ) (n : ℕ) → (0 < length xs → 0 < n) → is_empty (take n xs) ≡ true → is_empty (drop n xs) ≡ true
taking_ends [] zero some e = refl
taking_ends [] (suc n) some e = refl
taking_ends (x ∷ xs) zero some e = absurd (omega (arith, some (omega arith)))
taking_ends (x ∷ xs) (suc n) some e = absurd (cc)

read_ends : (v : PortView) (len n : ℕ) → n ≡ read_count v len → meets_end (Read len (take n v.left)) ≡ true
    → is_empty (drop n v.left) ≡ true
read_ends v zero n is e = absurd (cc)
read_ends v (suc len) n is e = taking_ends v.left n (λ some. omega (arith, is, some_read v (suc len) (omega arith) some)) e

pub read_stays : (xs : List ℕ) (n : ℕ) → is_empty xs ≡ true → (is_empty (drop n xs) ≡ true) × (take n xs ≡ [])
read_stays [] zero e = (refl, refl)
read_stays [] (suc n) e = (refl, refl)
read_stays (x ∷ xs) n e = absurd (cc)

read_facts : (v : PortView) (len n : ℕ) (fails : Bool) → n ≡ read_count v len
    → ReadFacts port_left port_read_faults port_ended v
    (cond fails (BadRead len) (Read len (take n v.left)))
    (cond fails (after_failed_read v) (after_read v n))
unfolding after_read after_failed_read
read_facts v len n true is = record {
  only = tt;
  fits = tt;
  counts = (next_later v.read_faults, next_rose v.read_faults);
  comes = refl;
  end = λ e. absurd (cc);
  stays = λ e. (e, refl);
}
read_facts v len n false is = record {
  only = tt;
  fits = simp length-take (omega (arith, is, room_read v len));
  counts = refl;
  comes = sym (take-append-drop n v.left);
  end = read_ends v len n is;
  stays = read_stays v.left n;
}

pub mem_read_law : (s t : PortView) (x : Step) → MemRead s x t → ReadFacts port_left port_read_faults port_ended s x t
mem_read_law s t x h = rw (h.after, h.call) (read_facts s h.len (read_count s h.len) (read_fails s) refl)

pub mem_read_leaves : (s t : PortView) (x : Step) → MemRead s x t → ReadLeaves port_sent port_write_faults port_log s x t
unfolding after_read after_failed_read
mem_read_leaves s t x h = rw (h.after, h.call) (leaves s h.len (read_count s h.len) (read_fails s))
  where
    leaves : (v : PortView) (len n : ℕ) (fails : Bool)
        → ReadLeaves port_sent port_write_faults port_log v
        (cond fails (BadRead len) (Read len (take n v.left)))
        (cond fails (after_failed_read v) (after_read v n))
    leaves v len n true = record { same_sent = refl; same_faults = refl; logs = sym (append-nil v.log) }
    leaves v len n false = record { same_sent = refl; same_faults = refl; logs = refl }

no_room : (len : ℕ) → 0 < len → (nat_lt 0 len && nat_eq 0 0) ≡ false → ⊥
no_room len h e = grind (arith, nat_tests)

some_write : (v : PortView) (len : ℕ) → 0 < len → write_fails v len ≡ false → 0 < write_count v len
unfolding write_fails write_count
some_write v len h ok =
    let some = piece_some v.pieces (next v.writes) len h in
    let room : 0 < v.room = has_room (is_in (next v.writes) v.bad_writes) (nat_eq v.calls 0) len v.room h ok in
    omega (arith, some, room)
  where
    has_room : (a b : Bool) (len room : ℕ) → 0 < len → (a || b || (nat_lt 0 len && nat_eq room 0)) ≡ false → 0 < room
    has_room true true len room h e = absurd (cc)
    has_room true false len room h e = absurd (cc)
    has_room false true len room h e = absurd (cc)
    has_room false false zero room h e = absurd (omega arith)
    has_room false false (suc len) zero h e = absurd (no_room (suc len) h e)
    has_room false false (suc len) (suc room) h e = omega arith

write_facts : (v : PortView) (piece : List ℕ) (n : ℕ) (fails : Bool) → n ≡ write_count v (length piece)
    → fails ≡ write_fails v (length piece)
    → WriteFacts port_sent port_write_faults v
    (write_of piece (cond fails (Err failed) (Ok n)))
    (cond fails (after_failed_write v) (after_write v (take n piece)))
unfolding after_write after_failed_write
write_facts v piece n true is fails = record {
  only = tt;
  fits = tt;
  some = tt;
  counts = (next_later v.write_faults, next_rose v.write_faults);
  goes = sym (append-nil v.sent);
}
write_facts v piece n false is fails = record {
  only = tt;
  fits = simp length-take (omega arith);
  some = λ h. simp length-take (omega (arith, is, h, some_write v (length piece) h (sym fails)));
  counts = refl;
  goes = refl;
}

pub mem_write_law : (s t : PortView) (x : Step) → MemWrite s x t → WriteFacts port_sent port_write_faults s x t
mem_write_law s t x h = rw (h.after, h.call) (write_facts s h.piece (write_count s (length h.piece))
    (write_fails s (length h.piece)) refl refl)

pub mem_write_leaves : (s t : PortView) (x : Step) → MemWrite s x t
    → WriteLeaves port_left port_read_faults port_ended port_log s x t
unfolding after_write after_failed_write
mem_write_leaves s t x h = rw (h.after, h.call) (leaves s h.piece (write_count s (length h.piece)) (write_fails s (length h.piece)))
  where
    leaves : (v : PortView) (piece : List ℕ) (n : ℕ) (fails : Bool)
        → WriteLeaves port_left port_read_faults port_ended port_log v
        (write_of piece (cond fails (Err failed) (Ok n)))
        (cond fails (after_failed_write v) (after_write v (take n piece)))
    leaves v piece n true = record { same_left = refl; same_faults = refl; same_end = refl; logs = sym (append-nil v.log) }
    leaves v piece n false = record { same_left = refl; same_faults = refl; same_end = refl; logs = refl }
