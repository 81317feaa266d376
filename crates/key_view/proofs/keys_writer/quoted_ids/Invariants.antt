use Rattle.std.proofs.Common.{◌≡◌, ◌++◌, drop, map}
use Rattle.key_view.specs.KeysText.{quoted_id}
use Rattle.key_view.proofs.keys_writer.quoted_ids.Given as goal

abbrev pub invariant-loop-bundle : goal.invariant-loop-bundle
invariant-loop-bundle l =
    l.texts.items ++ map quoted_id (drop l.bundle-index l.bundles) ≡ map quoted_id l.bundles
