-- Writing one text after another.
use Rattle.std.proofs.Common.{ℕ, ◌+◌, List, [], ◌++◌, length-append, take, drop, Option, Some, None, refl, sym, ◌∙◌, ap, arith, append_assoc, append-nil}
use Rattle.std.specs.Io.KnownBytes.{Appends}
use Rattle.std.proofs.Math.Seq.{take-add}
use Rattle.line_devices.specs.Writing.{AppendsBeginning, Sends}

-- nothing is appended at first
pub Appends-nil : (a : Option (List ℕ)) → Appends a a []
Appends-nil None = tt
Appends-nil (Some a) = sym (append-nil a)

-- one append after another
pub Appends-append : (a b c : Option (List ℕ)) (xs ys : List ℕ) → Appends a b xs → Appends b c ys → Appends a c (xs ++ ys)
Appends-append None b c xs ys h k = tt
Appends-append (Some a) None c xs ys h k = absurd h
Appends-append (Some a) (Some b) None xs ys h k = absurd k
Appends-append (Some a) (Some b) (Some c) xs ys h k = k ∙ ap (λ (z : List ℕ). z ++ ys) h ∙ append_assoc a xs ys

-- a write of the next n bytes of a text
pub Appends-take : (a b c : Option (List ℕ)) (at n : ℕ) (text : List ℕ) → Appends a b (take at text) → Appends b c (take n (drop at text))
    → Appends a c (take (at + n) text)
Appends-take a b c at n text h k = rw (take-add at n text) (Appends-append a b c (take at text) (take n (drop at text)) h k)

-- a beginning of some bytes is a beginning of them with more bytes at the end
pub AppendsBeginning-longer : (a b : Option (List ℕ)) (xs ys : List ℕ) → AppendsBeginning a b xs → AppendsBeginning a b (xs ++ ys)
AppendsBeginning-longer a b xs ys h = record {
  beginning = h.beginning;
  missing = h.missing ++ ys;
  appended = h.appended;
  whole = rw h.whole (append_assoc h.beginning h.missing ys);
  some_missing = omega (arith, h.some_missing, length-append h.missing ys);
}

-- a beginning after bytes that were all written
pub AppendsBeginning-append : (a b c : Option (List ℕ)) (xs ys : List ℕ) → Appends a b xs → AppendsBeginning b c ys → AppendsBeginning a c (xs ++ ys)
AppendsBeginning-append a b c xs ys h k = record {
  beginning = xs ++ k.beginning;
  missing = k.missing;
  appended = Appends-append a b c xs k.beginning h k.appended;
  whole = rw k.whole (sym (append_assoc xs k.beginning k.missing));
  some_missing = k.some_missing;
}

-- before anything is sent, all bytes are pending
pub Sends-nothing : (a : Option (List ℕ)) (xs : List ℕ) → Sends a a xs xs
Sends-nothing a xs = record { sent = []; appended = Appends-nil a; whole = refl }

-- the pending bytes are sent before the bytes after them
pub Sends-append : (a b c : Option (List ℕ)) (p xs q ys : List ℕ) → Sends a b p xs → Sends b c q (p ++ ys) → Sends a c q (xs ++ ys)
Sends-append a b c p xs q ys h k = record {
  sent = h.sent ++ k.sent;
  appended = Appends-append a b c h.sent k.sent h.appended k.appended;
  whole = rw (h.whole, append_assoc h.sent p ys, k.whole) (sym (append_assoc h.sent k.sent q));
}

pub AppendsBeginning-pending : (a b c : Option (List ℕ)) (p xs ys : List ℕ) → Sends a b p xs → AppendsBeginning b c (p ++ ys) → AppendsBeginning a c (xs ++ ys)
AppendsBeginning-pending a b c p xs ys h k = rw (h.whole, append_assoc h.sent p ys) (AppendsBeginning-append a b c h.sent (p ++ ys) h.appended k)

-- the pending bytes are written after the bytes that were sent
pub Appends-flushed : (a b c : Option (List ℕ)) (p bytes : List ℕ) → Sends a b p bytes → Appends b c p → Appends a c bytes
Appends-flushed a b c p bytes h k = rw h.whole (Appends-append a b c h.sent p h.appended k)

pub AppendsBeginning-flushed : (a b c : Option (List ℕ)) (p bytes : List ℕ) → Sends a b p bytes → AppendsBeginning b c p → AppendsBeginning a c bytes
AppendsBeginning-flushed a b c p bytes h k = rw h.whole (AppendsBeginning-append a b c h.sent p h.appended k)

-- the pending bytes and a text after them were written
pub Sends-written : (a b c : Option (List ℕ)) (xs ys : List ℕ) → Appends a b xs → Appends b c ys → Sends a c [] (xs ++ ys)
Sends-written a b c xs ys h k = record {
  sent = xs ++ ys;
  appended = Appends-append a b c xs ys h k;
  whole = sym (append-nil (xs ++ ys));
}

-- after all pending bytes are written, nothing is pending
pub Sends-flushed : (a b c : Option (List ℕ)) (p bytes : List ℕ) → Sends a b p bytes → Appends b c p → Sends a c [] bytes
Sends-flushed a b c p bytes h k = record {
  sent = bytes;
  appended = Appends-flushed a b c p bytes h k;
  whole = sym (append-nil bytes);
}
