-- Reading decides the kinds of parts that the spelling with witnesses has.
use Rattle.std.proofs.Common.{◌≡◌, ◌⊎◌, inl, inr, ℕ, Bool, true, false, List, ◌++◌, Ok, refl, sym, ap, ◌∙◌, append_assoc}
use Rattle.wire.specs.declared.fault.WireFault.{WireFault}
use Rattle.wire.specs.Grammar.{Grammar}
use Rattle.wire.specs.computed.Reader.{◌>>=◌, Part}
use Rattle.wire.specs.laws.Reader.{Decides, Found, Refused, IsBytes-after}
use Rattle.txn.specs.Parts.{only, pair_by}
use Rattle.txn.specs.computed.WitnessReader.{only_at}

module _ {A : Type 0} (fault : WireFault) (test : A → Bool) (g : Grammar A) (part : Part A) (d : Decides g part) where
  abbrev pub Tested : (bytes : List ℕ) → Found g bytes → (b : Bool) → Type 0
  Tested bytes f b = test f.value ≡ b → Found (only fault test g) bytes ⊎ Refused (only fault test g) bytes

  tested : (bytes : List ℕ) (f : Found g bytes) (b : Bool) → Tested bytes f b
  tested bytes f true is = inl (record { value = f.value; rest = f.rest; lawful = (f.lawful, is); parts = f.parts })
  tested bytes f false is = inr (record { fault = fault; faulty = inr (refl, record { value = f.value; rest = f.rest; lawful = f.lawful; fails = is; parts = f.parts }) })

  pub only_decides : Decides (only fault test g) (only_at fault test part)
  only_decides = record {
    again = λ x rest h. rw (d.again x rest h.0, h.1) refl;
    refuses = λ found bytes h. elim h [
      | inl f ↦ rw (d.refuses found bytes f) refl
      | inr f ↦
          let w = f.1 in
          let k : part bytes ≡ Ok (w.value, w.rest) = ap part w.parts ∙ d.again w.value w.rest w.lawful in
          rw (k, w.fails, f.0) refl
    ];
    total = λ bytes fits. elim (d.total bytes fits) [
      | inl f ↦ tested bytes f (test f.value) refl
      | inr r ↦ inr (record { fault = r.fault; faulty = inl r.faulty })
    ];
  }

pub pair_by_decides : {A B : Type 0} (g : Grammar A) (h : A → Grammar B) (first : Part A) (second : A → Part B) → Decides g first → ((a : A) → Decides (h a) (second a))
    → Decides (pair_by g h) (λ bytes. first bytes >>= λ x. second x.0 x.1 >>= λ y. Ok ((x.0, y.0), y.1))
pair_by_decides g h first second d e = record {
  again = λ x rest lawful.
      let k : first ((g.spell x.0 ++ (h x.0).spell x.1) ++ rest) ≡ Ok (x.0, (h x.0).spell x.1 ++ rest) = ap first (append_assoc (g.spell x.0) ((h x.0).spell x.1) rest) ∙ d.again x.0 ((h x.0).spell x.1 ++ rest) lawful.0 in
      rw (k, (e x.0).again x.1 rest lawful.1) refl;
  refuses = λ fault bytes faulty. elim faulty [
    | inl f ↦ rw (d.refuses fault bytes f) refl
    | inr f ↦
        let k : first bytes ≡ Ok (f.value, f.rest) = ap first f.parts ∙ d.again f.value f.rest f.lawful in
        rw (k, (e f.value).refuses fault f.rest f.faulty) refl
  ];
  total = λ bytes fits. elim (d.total bytes fits) [
    | inr r ↦ inr (record { fault = r.fault; faulty = inl r.faulty })
    | inl f ↦ elim ((e f.value).total f.rest (IsBytes-after bytes (g.spell f.value) f.rest f.parts fits)) [
      | inr r ↦ inr (record { fault = r.fault; faulty = inr (record { value = f.value; rest = f.rest; lawful = f.lawful; parts = f.parts; faulty = r.faulty }) })
      | inl s ↦ inl (record {
        value = (f.value, s.value);
        rest = s.rest;
        lawful = (f.lawful, s.lawful);
        parts = f.parts ∙ ap (λ (t : List ℕ). g.spell f.value ++ t) s.parts ∙ sym (append_assoc (g.spell f.value) ((h f.value).spell s.value) s.rest);
      })
    ]
  ];
}
