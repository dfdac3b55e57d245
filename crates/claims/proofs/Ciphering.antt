-- Deciphering gives back what was enciphered, of the daemon's call.
use Prim.Native.Nat.{ℕ, ◌≤◌}
use mathlib.Core.Path.{◌≡◌, ◌∙◌}
use mathlib.Core.List.{List, []}
use lib.ListN.{length, take}
use Rattle.answer.specs.Fronts.{over}
use Rattle.instance.specs.Wired.{Bits}
use Rattle.instance.specs.Keys.{Keyed}
use Rattle.instance.proofs.Accepted.{kreyvium_wired}
use Rattle.daemon.specs.Daemon.{Enciphered}
use Rattle.daemon.proofs.Numbers.{done_zero}
use Rattle.daemon.proofs.Counted.{as_cipher, cipher_accepted}
use Rattle.claims.proofs.Demands.{ciphering_back}

-- What `ciphering_back` says, of a call whose answer is one number, 0 for done.
pub kreyvium_back : (m : ℕ) (key rec iv out back : List ℕ) {q r : ℕ} {c d : List ℕ}
    → 1 ≤ m → m ≤ 64 → Keyed 6 key → Bits m rec → Bits 128 iv → m ≤ length out → m ≤ length back
    → Enciphered m key rec iv out q c → Enciphered m key (take m c) iv back r d
    → (q ≡ 0) × (r ≡ 0) × (d ≡ over rec back)
kreyvium_back m key rec iv out back {q} {r} {c} {d} some few k b v h g x y =
    let e = ciphering_back 6 m key rec [] iv out back (kreyvium_wired m iv some few v) k b h g (as_cipher m key rec iv out x) (as_cipher m key (take m c) iv back y) in (
      x.answered ∙ done_zero (cipher_accepted m key rec iv (length out) e.0),
      y.answered ∙ done_zero (cipher_accepted m key (take m c) iv (length back) e.1),
      e.2,
    )
