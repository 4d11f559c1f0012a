use Rattle.std.proofs.Common.{rules}
use Rattle.block.proofs.Parts.{Numbers, header_after}
use Rattle.wire.specs.laws.Extension.{extends-if, extends-trans}
use Rattle.block.proofs.encode.put_header.Goals as goal

pub returns-in_err-extend_from_slice-2-clause-extends : goal.returns-in_err-extend_from_slice-2-clause-extends
returns-in_err-extend_from_slice-2-clause-extends c = extends-trans _ _ _ (extends-if _ _ _ _ c.extend_from_slice.ensures.items) (extends-if _ _ _ _ c.extend_from_slice-2.ensures.items)

pub returns-in_err-extend_from_slice-3-clause-extends : goal.returns-in_err-extend_from_slice-3-clause-extends
returns-in_err-extend_from_slice-3-clause-extends c = extends-trans _ _ _ (extends-if _ _ _ _ c.extend_from_slice.ensures.items) (extends-trans _ _ _ (extends-if _ _ _ _ c.extend_from_slice-2.ensures.items) (extends-if _ _ _ _ c.extend_from_slice-3.ensures.items))

pub returns-in_err-extend_from_slice-4-clause-extends : goal.returns-in_err-extend_from_slice-4-clause-extends
returns-in_err-extend_from_slice-4-clause-extends c = extends-trans _ _ _ (extends-if _ _ _ _ c.extend_from_slice.ensures.items) (extends-trans _ _ _ (extends-if _ _ _ _ c.extend_from_slice-2.ensures.items) (extends-trans _ _ _ (extends-if _ _ _ _ c.extend_from_slice-3.ensures.items) (extends-if _ _ _ _ c.extend_from_slice-4.ensures.items)))

pub returns-in_err-extend_from_slice-5-clause-extends : goal.returns-in_err-extend_from_slice-5-clause-extends
returns-in_err-extend_from_slice-5-clause-extends c = extends-trans _ _ _ (extends-if _ _ _ _ c.extend_from_slice.ensures.items) (extends-trans _ _ _ (extends-if _ _ _ _ c.extend_from_slice-2.ensures.items) (extends-trans _ _ _ (extends-if _ _ _ _ c.extend_from_slice-3.ensures.items) (extends-trans _ _ _ (extends-if _ _ _ _ c.extend_from_slice-4.ensures.items) (extends-if _ _ _ _ c.extend_from_slice-5.ensures.items))))

pub returns-in_err-extend_from_slice-6-clause-extends : goal.returns-in_err-extend_from_slice-6-clause-extends
returns-in_err-extend_from_slice-6-clause-extends c = extends-trans _ _ _ (extends-if _ _ _ _ c.extend_from_slice.ensures.items) (extends-trans _ _ _ (extends-if _ _ _ _ c.extend_from_slice-2.ensures.items) (extends-trans _ _ _ (extends-if _ _ _ _ c.extend_from_slice-3.ensures.items) (extends-trans _ _ _ (extends-if _ _ _ _ c.extend_from_slice-4.ensures.items) (extends-trans _ _ _ (extends-if _ _ _ _ c.extend_from_slice-5.ensures.items) (extends-if _ _ _ _ c.extend_from_slice-6.ensures.items)))))

pub returns-clause-extends : goal.returns-clause-extends
returns-clause-extends c = extends-trans _ _ _ (extends-if _ _ _ _ c.extend_from_slice.ensures.items) (extends-trans _ _ _ (extends-if _ _ _ _ c.extend_from_slice-2.ensures.items) (extends-trans _ _ _ (extends-if _ _ _ _ c.extend_from_slice-3.ensures.items) (extends-trans _ _ _ (extends-if _ _ _ _ c.extend_from_slice-4.ensures.items) (extends-trans _ _ _ (extends-if _ _ _ _ c.extend_from_slice-5.ensures.items) (extends-if _ _ _ _ c.extend_from_slice-6.ensures.items)))))

pub returns-clause-written : goal.returns-clause-written
returns-clause-written c =
    let numbers : Numbers c.args.h.now c.to_le_bytes.result c.to_le_bytes-2.result c.to_le_bytes-3.result c.to_le_bytes-4.result = record {
      version_is = search rules;
      time_is = c.to_le_bytes-2.ensures;
      bits_is = c.to_le_bytes-3.ensures;
      nonce_is = c.to_le_bytes-4.ensures;
    } in
    rw (c.in_ok-extend_from_slice-6.ensures.items, c.in_ok-extend_from_slice-5.ensures.items, c.in_ok-extend_from_slice-4.ensures.items, c.in_ok-extend_from_slice-3.ensures.items, c.in_ok-extend_from_slice-2.ensures.items, c.in_ok-extend_from_slice.ensures.items) (header_after c.args.out.now.items c.args.h.now c.to_le_bytes.result c.to_le_bytes-2.result c.to_le_bytes-3.result c.to_le_bytes-4.result numbers)
