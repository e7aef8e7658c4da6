use Rattle.std.proofs.Common.{arith}
use Rattle.its_frame.specs.declared.name.CallName.TheVariants.{Hang, Sleep, Dismis, Usrvar, Logout, Open, Close, Iot, Siot, Finish, Listen, Ttylnd, Access, Fillen, Delete, Rename, Usrmem, Uclose, Corblk, Realt}
use Rattle.its_frame.proofs.NameLaws.{named_is, unnamed}
use Rattle.its_frame.proofs.name.CallName.named.Goals as goal

pub returns-in_default : goal.returns-in_default
returns-in_default c = let v = c.value.ensures.value in
    unnamed c.args.name (
      λ e. omega arith,
      (
        λ e. omega arith,
        (
          λ e. omega arith,
          (
            λ e. omega arith,
            (
              λ e. omega arith,
              (
                λ e. omega arith,
                (
                  λ e. omega arith,
                  (
                    λ e. omega arith,
                    (
                      λ e. omega arith,
                      (
                        λ e. omega arith,
                        (
                          λ e. omega arith,
                          (
                            λ e. omega arith,
                            (
                              λ e. omega arith,
                              (
                                λ e. omega arith,
                                (λ e. omega arith, (λ e. omega arith, (λ e. omega arith, (λ e. omega arith, (λ e. omega arith, (λ e. omega arith, record {})))))),
                              ),
                            ),
                          ),
                        ),
                      ),
                    ),
                  ),
                ),
              ),
            ),
          ),
        ),
      ),
    )

pub returns-in-43515539456 : goal.returns-in-43515539456
returns-in-43515539456 c = named_is _ _ Hang c.value.ensures.value c.in-43515539456.is

pub returns-in-55508884480 : goal.returns-in-55508884480
returns-in-55508884480 c = named_is _ _ Sleep c.value.ensures.value c.in-55508884480.is

pub returns-in-39356127859 : goal.returns-in-39356127859
returns-in-39356127859 c = named_is _ _ Dismis c.value.ensures.value c.in-39356127859.is

pub returns-in-57777285234 : goal.returns-in-57777285234
returns-in-57777285234 c = named_is _ _ Usrvar c.value.ensures.value c.in-57777285234.is

pub returns-in-48043588980 : goal.returns-in-48043588980
returns-in-48043588980 c = named_is _ _ Logout c.value.ensures.value c.in-48043588980.is

pub returns-in-51281059840 : goal.returns-in-51281059840
returns-in-51281059840 c = named_is _ _ Open c.value.ensures.value c.in-51281059840.is

pub returns-in-38331693376 : goal.returns-in-38331693376
returns-in-38331693376 c = named_is _ _ Close c.value.ensures.value c.in-38331693376.is

pub returns-in-44825575424 : goal.returns-in-44825575424
returns-in-44825575424 c = named_is _ _ Iot c.value.ensures.value c.in-44825575424.is

pub returns-in-55461232640 : goal.returns-in-55461232640
returns-in-55461232640 c = named_is _ _ Siot c.value.ensures.value c.in-55461232640.is

pub returns-in-41502285032 : goal.returns-in-41502285032
returns-in-41502285032 c = named_is _ _ Finish c.value.ensures.value c.in-41502285032.is

pub returns-in-47946090862 : goal.returns-in-47946090862
returns-in-47946090862 c = named_is _ _ Listen c.value.ensures.value c.in-47946090862.is

pub returns-in-56722115492 : goal.returns-in-56722115492
returns-in-56722115492 c = named_is _ _ Ttylnd c.value.ensures.value c.in-56722115492.is

pub returns-in-36030012659 : goal.returns-in-36030012659
returns-in-36030012659 c = named_is _ _ Access c.value.ensures.value c.in-36030012659.is

pub returns-in-41501772142 : goal.returns-in-41501772142
returns-in-41501772142 c = named_is _ _ Fillen c.value.ensures.value c.in-41501772142.is

pub returns-in-39287151909 : goal.returns-in-39287151909
returns-in-39287151909 c = named_is _ _ Delete c.value.ensures.value c.in-39287151909.is

pub returns-in-54320044901 : goal.returns-in-54320044901
returns-in-54320044901 c = named_is _ _ Rename c.value.ensures.value c.in-54320044901.is

pub returns-in-57777248621 : goal.returns-in-57777248621
returns-in-57777248621 c = named_is _ _ Usrmem c.value.ensures.value c.in-57777248621.is

pub returns-in-57507249381 : goal.returns-in-57507249381
returns-in-57507249381 c = named_is _ _ Uclose c.value.ensures.value c.in-57507249381.is

pub returns-in-38382742315 : goal.returns-in-38382742315
returns-in-38382742315 c = named_is _ _ Corblk c.value.ensures.value c.in-38382742315.is

pub returns-in-54316682496 : goal.returns-in-54316682496
returns-in-54316682496 c = named_is _ _ Realt c.value.ensures.value c.in-54316682496.is
