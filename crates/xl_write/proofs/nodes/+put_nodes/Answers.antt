use Rattle.std.proofs.Common.{◌≡◌, ◌+◌, ◌++◌, ◌∷◌, [], length, refl, sym, ap, ◌∙◌, subst, arith, ◌<◌}
use Rattle.std.proofs.lemmas.Result.{on_ok_weaker}
use Rattle.spec_document.specs.Forest.{none, leaf, group, size}
use Rattle.spec_layout.specs.Layout.{IsItem, layer_item}
use Rattle.xl_doc.specs.Nodes.{MarksAgree, nodes_of, layer_of, group_of}
use Rattle.xl_write.specs.Walk.{CanWalk}
use Rattle.xl_write.proofs.Followed.{none_appended}
use Rattle.xl_write.proofs.Walking.{under_leaf, in_group, under_group, leaf_walked, group_walked, moved, put_moved}
use Rattle.xl_write.proofs.Walking.{piece_moved, compressed, popped}
use Rattle.xl_write.proofs.PlanesFollowed.{leaf_followed, group_followed, nodes_followed, group_moved, item_followed}
use Rattle.xl_write.proofs.nodes.+put_nodes.Goals as goal

pub put_nodes-requires : goal.put_nodes-requires
put_nodes-requires g t c κs within =
    let d = c.args.doc.now in
    let path = c.args.path.now.items in
    let old = c.args.unfinished.now.bytes in
    let new = c.put_layer_at.new.unfinished.bytes in
    let under = nodes_of c.in-Leaf.under in
    let l = layer_of c.in-Leaf.node.now in
    let start : length c.args.unfinished.now.bytes ≡ length old = omega arith in
    let end : length new ≡ length c.put_layer_at.new.unfinished.bytes = omega arith in
    let can : CanWalk d path c.args.siblings.place (leaf c.in-Leaf.id.0 l under) (length old) =
    moved d path path c.args.siblings.place (nodes_of c.args.siblings.nodes) (leaf c.in-Leaf.id.0 l under) _ _ refl
    (ap nodes_of (sym c.in-Leaf.ensures.parts)) start c.requires.can in
    let next : CanWalk d c.put_layer_at.new.path.items (c.args.siblings.place + 1) under (length c.put_layer_at.new.unfinished.bytes) =
    moved d path _ (c.args.siblings.place + 1) under under _ _ (sym c.in_ok-put_layer_at-in-Leaf.ensures.path) refl end
    (under_leaf g.C.PlaneCoder.fits d path c.args.siblings.place c.in-Leaf.id.0 l under old new _ _ can
    (compressed g.C.PlaneCoder.fits c.doc.inside.compression d.compression _ old new _ _
    (ap (λ d. d.compression) c.doc.view_is) c.in_ok-put_layer_at-in-Leaf.ensures.piece)) in
    let agree = subst MarksAgree (sym c.in-Leaf.ensures.parts) c.requires.agree in
    let less : size c.in-Leaf.under < t = omega (arith, c.decreases, c.in-Leaf.ensures.falls) in
    (less, (search, (search, (agree.1, next))))

pub put_nodes-requires-in-Group : goal.put_nodes-requires-in-Group
put_nodes-requires-in-Group g t c κs within =
    let d = c.args.doc.now in
    let path = c.args.path.now.items in
    let deep = path ++ c.args.siblings.place ∷ [] in
    let old = c.args.unfinished.now.bytes in
    let new = c.put_group.new.unfinished.bytes in
    let children = nodes_of c.in-Group.children in
    let under = nodes_of c.in-Group.under in
    let gr = group_of c.in-Group.node.now in
    let start : length c.args.unfinished.now.bytes ≡ length old = omega arith in
    let end : length new ≡ length c.put_group.new.unfinished.bytes = omega arith in
    let can : CanWalk d path c.args.siblings.place (group c.in-Group.id.0 gr children under) (length old) =
    moved d path path c.args.siblings.place (nodes_of c.args.siblings.nodes) (group c.in-Group.id.0 gr children under) _ _ refl
    (ap nodes_of (sym c.in-Group.ensures.parts)) start c.requires.can in
    let put = piece_moved g.C.PlaneCoder.fits d c.deref.result.now deep c.in-Group.id.0 gr old new _ _ (c.deref.ensures.value
    ∙ c.in_ok-push-in-Group.ensures.items) c.in_ok-put_group-in-Group.ensures.piece in
    let next : CanWalk d c.push.new.self.items 0 children (length c.put_group.new.unfinished.bytes) =
    moved d deep _ 0 children children _ _ (sym c.in_ok-push-in-Group.ensures.items) refl end
    (in_group g.C.PlaneCoder.fits d path c.args.siblings.place c.in-Group.id.0 gr children under old new _ _ can put) in
    let agree = subst MarksAgree (sym c.in-Group.ensures.parts) c.requires.agree in
    let less : size c.in-Group.children < t = omega (arith, c.decreases, c.in-Group.ensures.falls) in
    (less, (search, (search, (agree.1.0, next))))

pub put_nodes-requires-in-Group-2 : goal.put_nodes-requires-in-Group-2
put_nodes-requires-in-Group-2 g t c κs within =
    let d = c.args.doc.now in
    let path = c.args.path.now.items in
    let deep = path ++ c.args.siblings.place ∷ [] in
    let old = c.args.unfinished.now.bytes in
    let mid = c.put_group.new.unfinished.bytes in
    let new = c.put_nodes-in-Group.new.unfinished.bytes in
    let children = nodes_of c.in-Group.children in
    let under = nodes_of c.in-Group.under in
    let gr = group_of c.in-Group.node.now in
    let start : length c.args.unfinished.now.bytes ≡ length old = omega arith in
    let end : length new ≡ length c.put_nodes-in-Group.new.unfinished.bytes =
    omega arith in
    let back : c.pop.new.self.items ≡ path =
    popped path c.put_nodes-in-Group.new.path.items c.pop.new.self.items c.args.siblings.place c.put_nodes-in-Group.new.path.len
    (c.in_ok-put_nodes-in-Group.ensures.path ∙ c.in_ok-push-in-Group.ensures.items)
    (omega (arith, c.put_nodes-in-Group.new.path.ok.0)) c.pop.ensures.rest in
    let can : CanWalk d path c.args.siblings.place (group c.in-Group.id.0 gr children under) (length old) =
    moved d path path c.args.siblings.place (nodes_of c.args.siblings.nodes) (group c.in-Group.id.0 gr children under) _ _ refl
    (ap nodes_of (sym c.in-Group.ensures.parts)) start c.requires.can in
    let put = piece_moved g.C.PlaneCoder.fits d c.deref.result.now deep c.in-Group.id.0 gr old mid _ _ (c.deref.ensures.value
    ∙ c.in_ok-push-in-Group.ensures.items) c.in_ok-put_group-in-Group.ensures.piece in
    let inside = put_moved g.C.PlaneCoder.fits d c.push.new.self.items deep 0 children children mid new _ _
    c.in_ok-push-in-Group.ensures.items refl c.in_ok-put_nodes-in-Group.ensures.pieces in
    let next : CanWalk d c.pop.new.self.items (c.args.siblings.place + 1) under (length c.put_nodes-in-Group.new.unfinished.bytes) =
    moved d path _ (c.args.siblings.place + 1) under under _ _ (sym back) refl end
    (under_group g.C.PlaneCoder.fits d path c.args.siblings.place c.in-Group.id.0 gr children under old mid new _ _ _ can put inside) in
    let agree = subst MarksAgree (sym c.in-Group.ensures.parts) c.requires.agree in
    let less : size c.in-Group.under < t = omega (arith, c.decreases, c.in-Group.ensures.falls) in
    (less, (search, (search, (agree.1.1, next))))

pub returns-in_ok-put_layer_at-in-Leaf-clause-pieces : goal.returns-in_ok-put_layer_at-in-Leaf-clause-pieces
returns-in_ok-put_layer_at-in-Leaf-clause-pieces g t c =
    let d = c.args.doc.now in
    let fits = g.C.PlaneCoder.fits in
    let path = c.args.path.now.items in
    let old = c.args.unfinished.now.bytes in
    let mid = c.put_layer_at.new.unfinished.bytes in
    let new = c.put_nodes.new.unfinished.bytes in
    let under = nodes_of c.in-Leaf.under in
    let l = layer_of c.in-Leaf.node.now in
    on_ok_weaker c.put_nodes.result
    (λ rest. put_moved fits d path path c.args.siblings.place (leaf c.in-Leaf.id.0 l under) (nodes_of c.args.siblings.nodes) old new _ _ refl
    (ap nodes_of c.in-Leaf.ensures.parts)
    (leaf_walked fits d path c.args.siblings.place c.in-Leaf.id.0 l under old mid new _ _ _
    (compressed fits c.doc.inside.compression d.compression _ old mid _ _
    (ap (λ d. d.compression) c.doc.view_is) c.in_ok-put_layer_at-in-Leaf.ensures.piece)
    (put_moved fits d c.put_layer_at.new.path.items path
    (c.args.siblings.place + 1) under under mid new _ _ c.in_ok-put_layer_at-in-Leaf.ensures.path refl rest)))
    c.put_nodes.ensures.pieces

pub returns-in_ok-put_nodes-in-Group-clause-pieces : goal.returns-in_ok-put_nodes-in-Group-clause-pieces
returns-in_ok-put_nodes-in-Group-clause-pieces g t c =
    let d = c.args.doc.now in
    let fits = g.C.PlaneCoder.fits in
    let path = c.args.path.now.items in
    let deep = path ++ c.args.siblings.place ∷ [] in
    let old = c.args.unfinished.now.bytes in
    let mid = c.put_group.new.unfinished.bytes in
    let far = c.put_nodes-in-Group.new.unfinished.bytes in
    let new = c.put_nodes-in-Group-2.new.unfinished.bytes in
    let children = nodes_of c.in-Group.children in
    let under = nodes_of c.in-Group.under in
    let gr = group_of c.in-Group.node.now in
    let back : c.pop.new.self.items ≡ path =
    popped path c.put_nodes-in-Group.new.path.items c.pop.new.self.items c.args.siblings.place c.put_nodes-in-Group.new.path.len
    (c.in_ok-put_nodes-in-Group.ensures.path ∙ c.in_ok-push-in-Group.ensures.items)
    (omega (arith, c.put_nodes-in-Group.new.path.ok.0)) c.pop.ensures.rest in
    let put = piece_moved fits d c.deref.result.now deep c.in-Group.id.0 gr old mid _ _ (c.deref.ensures.value
    ∙ c.in_ok-push-in-Group.ensures.items) c.in_ok-put_group-in-Group.ensures.piece in
    let inside = put_moved fits d c.push.new.self.items deep 0 children children mid far _ _ c.in_ok-push-in-Group.ensures.items
    refl c.in_ok-put_nodes-in-Group.ensures.pieces in
    on_ok_weaker c.put_nodes-in-Group-2.result
    (λ rest. put_moved fits d path path c.args.siblings.place (group c.in-Group.id.0 gr children under)
    (nodes_of c.args.siblings.nodes) old new _ _ refl (ap nodes_of c.in-Group.ensures.parts)
    (group_walked fits d path c.args.siblings.place c.in-Group.id.0 gr children under old mid far new _ _ _ _ put inside
    (put_moved fits d c.pop.new.self.items path (c.args.siblings.place + 1) under under far new _ _ back refl rest)))
    c.put_nodes-in-Group-2.ensures.pieces

pub returns-in_ok-put_layer_at-in-Leaf-clause-followed : goal.returns-in_ok-put_layer_at-in-Leaf-clause-followed
returns-in_ok-put_layer_at-in-Leaf-clause-followed g t c =
    let d = c.args.doc.now in
    let follows = g.C.PlaneCoder.follows in
    let path = c.args.path.now.items in
    let before = c.args.coder.now in
    let between = c.put_layer_at.new.coder in
    let after = c.put_nodes.new.coder in
    let under = nodes_of c.in-Leaf.under in
    let l = layer_of c.in-Leaf.node.now in
    on_ok_weaker c.put_nodes.result
    (λ rest. nodes_followed follows d path path c.args.siblings.place (leaf c.in-Leaf.id.0 l under) (nodes_of c.args.siblings.nodes) before after refl
    (ap nodes_of c.in-Leaf.ensures.parts)
    (leaf_followed follows d path c.args.siblings.place c.in-Leaf.id.0 l under before between after
    (item_followed follows c.doc.inside.compression d.compression (layer_item (path ++ c.args.siblings.place ∷ []) l) before between
    (ap (λ d. d.compression) c.doc.view_is) c.in_ok-put_layer_at-in-Leaf.ensures.followed)
    (nodes_followed follows d c.put_layer_at.new.path.items path
    (c.args.siblings.place + 1) under under between after c.in_ok-put_layer_at-in-Leaf.ensures.path refl rest)))
    c.put_nodes.ensures.followed

pub returns-in_ok-put_nodes-in-Group-clause-followed : goal.returns-in_ok-put_nodes-in-Group-clause-followed
returns-in_ok-put_nodes-in-Group-clause-followed g t c =
    let d = c.args.doc.now in
    let follows = g.C.PlaneCoder.follows in
    let path = c.args.path.now.items in
    let deep = path ++ c.args.siblings.place ∷ [] in
    let before = c.args.coder.now in
    let between = c.put_group.new.coder in
    let far = c.put_nodes-in-Group.new.coder in
    let after = c.put_nodes-in-Group-2.new.coder in
    let children = nodes_of c.in-Group.children in
    let under = nodes_of c.in-Group.under in
    let gr = group_of c.in-Group.node.now in
    let back : c.pop.new.self.items ≡ path =
    popped path c.put_nodes-in-Group.new.path.items c.pop.new.self.items c.args.siblings.place c.put_nodes-in-Group.new.path.len
    (c.in_ok-put_nodes-in-Group.ensures.path ∙ c.in_ok-push-in-Group.ensures.items)
    (omega (arith, c.put_nodes-in-Group.new.path.ok.0)) c.pop.ensures.rest in
    let first = group_moved follows d c.deref.result.now deep c.in-Group.id.0 gr before between (c.deref.ensures.value
    ∙ c.in_ok-push-in-Group.ensures.items) c.in_ok-put_group-in-Group.ensures.followed in
    let inside = nodes_followed follows d c.push.new.self.items deep 0 children children between far
    c.in_ok-push-in-Group.ensures.items refl c.in_ok-put_nodes-in-Group.ensures.followed in
    on_ok_weaker c.put_nodes-in-Group-2.result
    (λ rest. nodes_followed follows d path path c.args.siblings.place (group c.in-Group.id.0 gr children under)
    (nodes_of c.args.siblings.nodes) before after refl (ap nodes_of c.in-Group.ensures.parts)
    (group_followed follows d path c.args.siblings.place c.in-Group.id.0 gr children under before between far after first inside
    (nodes_followed follows d c.pop.new.self.items path (c.args.siblings.place + 1) under under far after back refl rest)))
    c.put_nodes-in-Group-2.ensures.followed

pub returns-in-Empty-clause-followed : goal.returns-in-Empty-clause-followed
returns-in-Empty-clause-followed g t c =
    let path = c.args.path.now.items in
    nodes_followed g.C.PlaneCoder.follows c.args.doc.now path path c.args.siblings.place none (nodes_of c.args.siblings.nodes) c.args.coder.now
    c.args.coder.now refl (ap nodes_of c.in-Empty.ensures.parts) refl

pub returns-in-Empty-clause-pieces : goal.returns-in-Empty-clause-pieces
returns-in-Empty-clause-pieces g t c =
    let path = c.args.path.now.items in
    let old = c.args.unfinished.now.bytes in
    let begins = c.args.unfinished.now.begins.items in
    put_moved g.C.PlaneCoder.fits c.args.doc.now path path c.args.siblings.place none (nodes_of c.args.siblings.nodes) old old begins begins refl
    (ap nodes_of c.in-Empty.ensures.parts) (none_appended (IsItem g.C.PlaneCoder.fits c.args.doc.now.compression) old begins)
