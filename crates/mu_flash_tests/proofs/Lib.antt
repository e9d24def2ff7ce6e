mod Erased
