mod Evicting
