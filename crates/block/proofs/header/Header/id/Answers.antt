use Rattle.std.proofs.Common.{rules, ◌≡◌, ℕ, List, ◌++◌, ap, ◌∙◌}
use Rattle.hash.specs.Double.{double_sha}
use Rattle.hash.specs.declared.id.Id.{Id}
use Rattle.block.proofs.Parts.{Numbers, header_of}
use Rattle.block.proofs.header.Header.id.Goals as goal

pub returns : goal.returns
returns c =
    let fed = c.update-6.ensures _ (c.update-5.ensures _ (c.update-4.ensures _ (c.update-3.ensures _ (c.update-2.ensures _ (c.update.ensures _ c.new-hasher.ensures))))) in
    let prev : List ℕ = c.args.self.now.prev.0 in
    let root : List ℕ = c.args.self.now.root.0 in
    let hashed : c.finish.result ≡ double_sha (((((c.to_le_bytes.result ++ prev) ++ root) ++ c.to_le_bytes-2.result) ++ c.to_le_bytes-3.result) ++ c.to_le_bytes-4.result) = c.finish.ensures _ fed in
    let numbers : Numbers c.args.self.now c.to_le_bytes.result c.to_le_bytes-2.result c.to_le_bytes-3.result c.to_le_bytes-4.result = record {
      version_is = search rules;
      time_is = c.to_le_bytes-2.ensures;
      bits_is = c.to_le_bytes-3.ensures;
      nonce_is = c.to_le_bytes-4.ensures;
    } in
    let made : List ℕ → Id = λ bytes. record { 0 = bytes } in
    ap made (hashed ∙ ap double_sha (header_of c.args.self.now c.to_le_bytes.result c.to_le_bytes-2.result c.to_le_bytes-3.result c.to_le_bytes-4.result numbers))
